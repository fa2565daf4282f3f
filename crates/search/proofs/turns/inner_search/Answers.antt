-- `search::turns::inner_search` meets its contract: the place is pushed, and each turn goes on or meets. Assumes nothing.
use native.Mathlib.Omega.{arith}
use mathlib.Core.Path.{◌≡◌}
use Rattle.workspace.proofs.Views.{kept_on}
use Rattle.workspace.proofs.InnerTurnsIn.{inner_kept, inner_begun}
use Rattle.search.proofs.turns.inner_search.Goals as goal

pub loop-depth-init : goal.loop-depth-init
loop-depth-init c =
    let p = c.requires.leaving in
    rw c.push.ensures
    (record { kept = inner_kept p.0 p.3; inside = λ x r d leaving. inner_begun x leaving c.requires.marked })

pub inner_turn-requires-clause-inside : goal.inner_turn-requires-clause-inside
inner_turn-requires-clause-inside c =
    let p = c.requires.leaving in
    (p.0, p.1, _, p.2, _, c.loop-depth.invariant.inside p.0 p.1 p.2 p.3)

pub loop-depth-smaller : goal.loop-depth-smaller
loop-depth-smaller c =
    let p = c.requires.leaving in
    (c.in_ok-depth.ensures.turned p.0 p.1 _ p.2 _ (c.loop-depth.invariant.inside p.0 p.1 p.2 p.3)).falls

pub loop-depth-preserved : goal.loop-depth-preserved
loop-depth-preserved c = record {
  kept = kept_on c.loop-depth.invariant.kept c.inner_turn.ensures.kept;
  inside = λ x r d leaving. (c.in_ok-depth.ensures.turned x r _ d _ (c.loop-depth.invariant.inside x r d leaving)).at;
}

pub returns-in_err-depth-clause-searched : goal.returns-in_err-depth-clause-searched
returns-in_err-depth-clause-searched c x r d leaving =
    rw c.from_residual.ensures (c.in_err-depth.ensures.turned x r _ d _ (c.loop-depth.invariant.inside x r d leaving))

pub returns-clause-searched : goal.returns-clause-searched
returns-clause-searched c x r d leaving =
    let none : c.loop-depth.depth ≡ 0 = omega arith in
    rw none at (c.loop-depth.invariant.inside x r d leaving)
