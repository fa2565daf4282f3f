-- No edge passed is bad.
use Rattle.std.proofs.Common.{ℕ, ◌<◌, ◌≡◌, false, ◌||◌}
use Rattle.reading.specs.Refusals.{bad_end, not_above}
use Rattle.reading.proofs.parts.Parts.check_edges.Given as goal

abbrev pub invariant-loop-e : goal.invariant-loop-e
invariant-loop-e l = (j : ℕ) → j < l.e → (bad_end l.self.states l.self.edge_list.now j || not_above l.self.edge_list.now j) ≡ false
