-- The edge that goes from x to y.
use Rattle.std.proofs.Common.{sym}
use Rattle.reading.specs.Parts.{has_edge}
use Rattle.reading.proofs.Lowest.{any_found}
use Rattle.reading.proofs.parts.has_edge.Goals as goal

pub returns-then-eq : goal.returns-then-eq
unfolding has_edge
returns-then-eq c =
    sym (any_found _ _ _ c.loop-e-test.true (simp (← c.edge_at.ensures.from, ← c.edge_at.ensures.to, ← c.eq.ensures, c.if-eq.true)))
