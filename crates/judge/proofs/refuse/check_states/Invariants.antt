-- Every entry passed is a state.
use Rattle.std.proofs.Common.{ℕ, ◌<◌, ◌≡◌, false, get_or}
use Rattle.std.specs.Prelude.{leb}
use Rattle.judge.proofs.refuse.check_states.Given as goal

abbrev pub invariant-loop-i : goal.invariant-loop-i
invariant-loop-i l = (j : ℕ) → j < l.i → leb l.states (get_or l.run.track.now j 0) ≡ false
