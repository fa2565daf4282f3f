-- The outer loop: every state passed starts an edge, and none is found yet. The inner loop: no edge passed starts at this state.
use Rattle.std.proofs.Common.{ℕ, ◌<◌, ◌≡◌, false, eqb, None}
use Rattle.reading.specs.Refusals.{starts_none}
use Rattle.reading.specs.Parts.{from_of}
use Rattle.reading.proofs.parts.Parts.lowest_dead_end.Given as goal

abbrev pub invariant-states : goal.invariant-states
invariant-states l = record {
  unfound : l.found ≡ None;
  each_starts : (j : ℕ) → j < l.s → starts_none l.self.edge_list.now j ≡ false;
}

abbrev pub invariant-loop-e : goal.invariant-loop-e
invariant-loop-e l = (j : ℕ) → j < l.e → eqb (from_of l.self.edge_list.now j) l.s ≡ false
