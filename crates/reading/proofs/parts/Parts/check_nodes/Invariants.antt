-- No node passed is bad.
use Rattle.std.proofs.Common.{ℕ, ◌<◌, ◌≡◌, false, ◌||◌}
use Rattle.reading.specs.Refusals.{unknown, wrong_byte}
use Rattle.reading.proofs.parts.Parts.check_nodes.Given as goal

abbrev pub invariant-loop-n : goal.invariant-loop-n
invariant-loop-n l = (j : ℕ) → j < l.n → (unknown l.self.node_list.now j || wrong_byte l.self.atoms l.self.node_list.now j) ≡ false
