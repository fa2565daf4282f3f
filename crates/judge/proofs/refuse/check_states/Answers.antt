-- The lowest entry that is no state, or none.
use Rattle.std.proofs.Common.{arith}
use borrow.Author.Tests.{le-leb}
use Rattle.judge.specs.declared.RunRefusal.TheVariants.{NoState}
use Rattle.judge.proofs.Refused.{refused_here, none_refused}
use Rattle.judge.proofs.refuse.check_states.Goals as goal

pub returns-then-states-entry : goal.returns-then-states-entry
returns-then-states-entry c = refused_here _ _ NoState _ (omega arith) c.loop-i.invariant (le-leb _ _ (omega arith))

pub returns : goal.returns
returns c = none_refused _ _ NoState (λ j h. c.loop-i.invariant j (omega arith))
