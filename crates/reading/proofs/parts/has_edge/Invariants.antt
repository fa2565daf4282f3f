-- No edge passed goes from x to y.
use Rattle.std.proofs.Common.{ℕ, ◌<◌, ◌≡◌, false, eqb, ◌&&◌}
use Rattle.reading.specs.Parts.{from_of, to_of}
use Rattle.reading.proofs.parts.has_edge.Given as goal

abbrev pub invariant-loop-e : goal.invariant-loop-e
invariant-loop-e l = (j : ℕ) → j < l.e → (eqb (from_of l.edges j) l.x && eqb (to_of l.edges j) l.y) ≡ false
