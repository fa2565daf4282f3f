-- No state passed is bad.
use Rattle.std.proofs.Common.{ℕ, ◌<◌, ◌≡◌, false}
use Rattle.reading.specs.Refusals.{bad_state}
use Rattle.reading.proofs.parts.Parts.check_states.Given as goal

abbrev pub invariant-loop-s : goal.invariant-loop-s
invariant-loop-s l = (j : ℕ) → j < l.s → bad_state l.self.atoms l.self.state_list.now j ≡ false
