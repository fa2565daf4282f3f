-- `tracks::Run::fold_loop` meets its contract: at the latest after a whole turn the loop comes round. Assumes nothing.
use Rattle.meaning.proofs.Folds.{turn_rotates}
use Rattle.tracks.proofs.Run.fold_loop.Goals as goal

pub returns-clause-rotates : goal.returns-clause-rotates
returns-clause-rotates c = turn_rotates _ _ _
