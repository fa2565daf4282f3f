-- The lowest entry with no edge to the one after it, or none.
use Rattle.std.proofs.Common.{arith, rules}
use Rattle.judge.specs.declared.RunRefusal.TheVariants.{NoEdge}
use Rattle.judge.proofs.Refused.{refused_here, none_refused}
use Rattle.judge.proofs.refuse.check_steps.Goals as goal

pub returns-then-not-has_edge : goal.returns-then-not-has_edge
returns-then-not-has_edge c = refused_here _ _ NoEdge _ (omega arith) c.loop-here.invariant (search rules)

pub returns : goal.returns
returns c = none_refused _ _ NoEdge (λ j h. c.loop-here.invariant j (omega arith))
