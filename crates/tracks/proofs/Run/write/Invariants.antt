-- `tracks::Run::write` meets its contract. The loop's invariant: so many states are written. Assumes nothing.
use Prim.Native.Nat.{ℕ, ◌<◌}
use mathlib.Core.Path.{◌≡◌}
use lib.ListN.{get_or}
use Rattle.tracks.specs.Entries.{entries}
use Rattle.tracks.proofs.Run.write.Given as goal

abbrev pub invariant-loop-i : goal.invariant-loop-i
invariant-loop-i l = (k : ℕ) → k < l.i → get_or l.entry-items k 0 ≡ entries l.self k
