-- The state with no edge is the lowest.
use Rattle.std.proofs.Common.{arith}
use Rattle.reading.proofs.Rows.{starts_none_lem}
use Rattle.reading.proofs.Lowest.{lowest_is}
use Rattle.reading.proofs.parts.Parts.lowest_dead_end.Goals as goal

pub returns-after-loop-e-clause-lowest : goal.returns-after-loop-e-clause-lowest
returns-after-loop-e-clause-lowest c =
    lowest_is _ _ _
    (omega (arith, c.states-test.true))
    c.states.invariant.each_starts
    (λ _. starts_none_lem _ _ (λ e h. c.loop-e.invariant e (omega (arith, h, c.loop-e-test.false))))
