-- The case's refusal, the run's, or the verdict that the rule's bit gives (`Verdicts`).
use Rattle.std.proofs.Common.{sym, ◌∙◌}
use Rattle.std.proofs.lemmas.Result.{err_from_is_err_and}
use Rattle.reading.proofs.Known.{known}
use Rattle.reading.proofs.Read.{case_refused}
use Rattle.judge.proofs.Verdicts.{judged_case, judged_run, judged_true, judged_false, tellable, room}
use Rattle.judge.proofs.judge.Goals as goal

pub returns-in_err-case : goal.returns-in_err-case
returns-in_err-case c =
    let p = err_from_is_err_and c.from_residual.result c.from_residual.ensures.1 in
    rw (p.1, p.2) (judged_case _ _ _ _ _ _ (case_refused _ _ c.in_err-case.ensures.refused))

pub returns-in_err-run : goal.returns-in_err-run
returns-in_err-run c =
    let case = known _ _ c.in_ok-case.case.admitted in
    let p = err_from_is_err_and c.from_residual-in_err-run.result c.from_residual-in_err-run.ensures.1 in
    rw (p.1, p.2, ← c.in_ok-case.ensures.read) (judged_run _ case.passed _ _ _ _ _ c.in_err-run.ensures.refused)

pub invariant_of-judging : goal.invariant_of-judging
invariant_of-judging c =
    let case = known _ _ c.in_ok-case.case.admitted in
    record { tellable = rw (c.states.ensures, c.nodes.ensures) (tellable _ case.passed _ _ _ _ c.in_ok-run.ensures.passed) }

pub rule_holds-requires : goal.rule_holds-requires
rule_holds-requires c =
    let case = known _ _ c.in_ok-case.case.admitted in
    room _ case.passed _ _ _ _ c.in_ok-run.ensures.passed

pub returns-then-rule_holds : goal.returns-then-rule_holds
returns-then-rule_holds c =
    let case = known _ _ c.in_ok-case.case.admitted in
    let run = c.in_ok-run.ensures in
    rw (← c.in_ok-case.ensures.read, ← run.track, ← run.k, ← run.m)
    (judged_true _ case.passed _ _ _ _ run.passed _ c.rule_holds.ensures.cleared
    (rw (← c.states.ensures, ← c.nodes.ensures) (sym c.rule_holds.ensures.rule ∙ c.if-rule_holds.true)))

pub returns-else-rule_holds : goal.returns-else-rule_holds
returns-else-rule_holds c =
    let case = known _ _ c.in_ok-case.case.admitted in
    let run = c.in_ok-run.ensures in
    rw (← c.in_ok-case.ensures.read, ← run.track, ← run.k, ← run.m)
    (judged_false _ case.passed _ _ _ _ run.passed _ c.rule_holds.ensures.cleared
    (rw (← c.states.ensures, ← c.nodes.ensures) (sym c.rule_holds.ensures.rule ∙ c.if-rule_holds.false)))
