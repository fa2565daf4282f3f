-- What is filled is the outcome: of a refused case, of a list that is shorter than S, and of a list that is long enough.
use Rattle.std.proofs.Common.{◌≡◌, ap, sym, ◌∙◌, arith, add-one, length}
use Rattle.std.proofs.lemmas.List.{length-take-le}
use Rattle.std.proofs.lemmas.Result.{err_from_is_err_and}
use Rattle.reading.proofs.Known.{known}
use Rattle.mullodai.proofs.StateLists.{mid_zero, mid_next, mid_all, refused_filled, short_filled, all_filled}
use Rattle.mullodai.proofs.fill.Goals as goal

pub returns-in_err-case : goal.returns-in_err-case
returns-in_err-case c =
    let p = err_from_is_err_and c.from_residual.result c.from_residual.ensures.1 in
    rw (p.1, p.2) (refused_filled _ _ _ c.in_err-case.ensures.refused)

pub returns-then-list-states : goal.returns-then-list-states
returns-then-list-states c =
    rw (← c.in_ok-case.ensures.read) (short_filled _ _ _ c.in_ok-case.case.admitted c.if-list-states.true)

pub loop-s-init : goal.loop-s-init
loop-s-init c = sym (mid_zero _ _)

pub record_at-requires : goal.record_at-requires
record_at-requires c =
    let k = known _ _ c.in_ok-case.case.admitted in
    omega (arith, ap length c.states-state_list.ensures, k.facts.state_bytes, k.states_is, length-take-le _ c.args.list.now c.if-list-states.false)

pub loop-s-preserved : goal.loop-s-preserved
loop-s-preserved c =
    rw (c.record_at.ensures, c.loop-s.invariant, add-one, ← c.in_ok-case.ensures.read, ← c.states-state_list.ensures)
    (mid_next _ _ c.loop-s.s (omega arith))

pub returns : goal.returns
returns c =
    let lent = length-take-le _ c.args.list.now c.if-list-states.false in
    let s : c.loop-s.s ≡ c.in_ok-case.case.shape.states = omega (arith, lent) in
    let filled = c.loop-s.invariant ∙ mid_all _ _ _ (lent ∙ sym s) in
    rw (filled, s, ← c.in_ok-case.ensures.read)
    (all_filled _ _ _ c.in_ok-case.case.admitted c.if-list-states.false)
