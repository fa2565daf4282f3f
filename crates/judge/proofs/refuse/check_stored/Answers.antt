-- Each answer is its row's, by the rows before it.
use Rattle.std.proofs.Common.{Ok, sym, ap, length, ◌∙◌, arith}
use Rattle.std.proofs.lemmas.Result.{err_from_is_err_and}
use borrow.Author.Tests.{leb-false, lt-ltb, le-ltb}
use Rattle.reading.proofs.Lowest.{any_false}
use Rattle.reading.proofs.Known.{known}
use Rattle.judge.specs.Refusals.{stored_refusal}
use Rattle.judge.proofs.Refused.{refused_alone, not_refused}
use Rattle.judge.proofs.refuse.check_stored.Goals as goal

pub returns-in_err-check_states : goal.returns-in_err-check_states
unfolding stored_refusal
returns-in_err-check_states c =
    let case = known _ _ c.args.case.now.admitted in
    let p = err_from_is_err_and c.from_residual.result c.from_residual.ensures.1 in
    rw (p.1, p.2, ← case.states_is) (sym (refused_alone _ _ _ _ (sym c.check_states.ensures ∙ c.in_err-check_states.was)))

pub initial-requires : goal.initial-requires
initial-requires c =
    let case = known _ _ c.args.case.now.admitted in
    let run = c.args.run.now in
    let states = (not_refused _ _ (Ok tt) _ (sym c.check_states.ensures ∙ c.in_ok-check_states.was)).0 in
    omega (arith, leb-false _ _ (any_false _ _ states 0 (omega (arith, run.some_loop))), c.entry.ensures, ap length c.states.ensures, case.states_is, case.facts.state_bytes)

pub returns-then-not-initial : goal.returns-then-not-initial
unfolding stored_refusal
returns-then-not-initial c =
    let case = known _ _ c.args.case.now.admitted in
    let states = (not_refused _ _ (Ok tt) _ (sym c.check_states.ensures ∙ c.in_ok-check_states.was)).0 in
    simp (← case.states_is, states, ← c.states.ensures, ← c.entry.ensures, ← c.initial.ensures, c.if-not-initial.true)

pub returns-in_err-check_steps : goal.returns-in_err-check_steps
unfolding stored_refusal
returns-in_err-check_steps c =
    let case = known _ _ c.args.case.now.admitted in
    let states = (not_refused _ _ (Ok tt) _ (sym c.check_states.ensures ∙ c.in_ok-check_states.was)).0 in
    let p = err_from_is_err_and c.from_residual-in_err-check_steps.result c.from_residual-in_err-check_steps.ensures.1 in
    simp (← case.states_is, states, ← c.states.ensures, ← c.entry.ensures, ← c.initial.ensures, c.if-not-initial.false, ← c.edges.ensures)
    (rw (p.1, p.2) (sym (refused_alone _ _ _ _ (sym c.check_steps.ensures ∙ c.in_err-check_steps.was))))

pub returns-then-room-needed : goal.returns-then-room-needed
unfolding stored_refusal
returns-then-room-needed c =
    let case = known _ _ c.args.case.now.admitted in
    let states = (not_refused _ _ (Ok tt) _ (sym c.check_states.ensures ∙ c.in_ok-check_states.was)).0 in
    let steps = (not_refused _ _ (Ok tt) _ (sym c.check_steps.ensures ∙ c.in_ok-check_steps.was)).0 in
    simp (← case.states_is, states, ← c.states.ensures, ← c.entry.ensures, ← c.initial.ensures, c.if-not-initial.false, ← c.edges.ensures, steps, c.length-needed.ensures, lt-ltb _ _ (rw c.length-needed.ensures at c.if-room-needed.true))

pub returns : goal.returns
unfolding stored_refusal
returns c =
    let case = known _ _ c.args.case.now.admitted in
    let states = (not_refused _ _ (Ok tt) _ (sym c.check_states.ensures ∙ c.in_ok-check_states.was)).0 in
    let steps = (not_refused _ _ (Ok tt) _ (sym c.check_steps.ensures ∙ c.in_ok-check_steps.was)).0 in
    simp (← case.states_is, states, ← c.states.ensures, ← c.entry.ensures, ← c.initial.ensures, c.if-not-initial.false, ← c.edges.ensures, steps, le-ltb _ _ (rw c.length-needed.ensures at c.if-room-needed.false))
