-- `tracks::Run::fold_stem` meets its contract. The loop's invariant: every entry of the stem passed is the one a loop further on. Assumes
-- nothing.
use Rattle.meaning.proofs.Folds.{StemEnds}
use Rattle.tracks.specs.Entries.{entries}
use Rattle.tracks.proofs.Run.fold_stem.Given as goal

abbrev pub invariant-loop-i : goal.invariant-loop-i
invariant-loop-i l = StemEnds (entries l.self) l.i l.self.stem l.self.repeat
