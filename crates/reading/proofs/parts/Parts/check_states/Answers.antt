-- The first bad state, or none.
use Rattle.std.proofs.Common.{sym, ◌∙◌, arith}
use Rattle.reading.specs.Refusals.{states_refusal, bad_state}
use Rattle.reading.specs.Answers.{record_of}
use Rattle.reading.specs.declared.CaseRefusal.TheVariants.{Bits}
use Rattle.reading.proofs.Rows.{refused_at, none_refused}
use Rattle.reading.proofs.parts.Parts.check_states.Goals as goal

pub returns-then-bad_state : goal.returns-then-bad_state
unfolding states_refusal bad_state record_of
returns-then-bad_state c =
    refused_at _ _ Bits _ c.loop-s-test.true c.loop-s.invariant (rw c.record_at.ensures at (sym c.bad_state.ensures ∙ c.if-bad_state.true))

pub returns : goal.returns
unfolding states_refusal
returns c = none_refused _ _ Bits (λ j h. c.loop-s.invariant j (omega (arith, h, c.loop-s-test.false)))
