-- `tracks::Run::folded` meets its contract: the loop is folded, and then the stem. Assumes nothing.
use Rattle.meaning.proofs.Folds.{folds}
use Rattle.tracks.proofs.Run.folded.Goals as goal

pub returns-clause-folds : goal.returns-clause-folds
returns-clause-folds c =
    let repeat = c.fold_loop.ensures in
    let stem = c.fold_stem.ensures in
    folds _ _ _ _ _ repeat.some repeat.within stem.within repeat.rotates stem.ends
