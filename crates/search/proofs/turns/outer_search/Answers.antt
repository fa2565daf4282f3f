-- `search::turns::outer_search` meets its contract: the root is painted and pushed, and each turn goes on or meets. Assumes nothing.
use mathlib.Core.Path.{◌≡◌}
use Rattle.std.proofs.Common.{rules}
use Rattle.workspace.proofs.Views.{kept_on}
use Rattle.workspace.proofs.RootTurnsIn.{root_kept, root_begun}
use Rattle.search.proofs.turns.outer_search.Goals as goal

pub loop-depth-init : goal.loop-depth-init
loop-depth-init c =
    rw (c.push.ensures, c.paint.ensures)
    (record { kept = root_kept c.requires.0 c.requires.1; inside = λ x root. root_begun x root })

pub outer_turn-requires-clause-inside : goal.outer_turn-requires-clause-inside
outer_turn-requires-clause-inside c =
    let p = c.requires in
    (p.0, _, c.loop-depth.invariant.inside p.0 p.1)

pub loop-depth-smaller : goal.loop-depth-smaller
loop-depth-smaller c =
    let p = c.requires in
    (rw c.in_ok-depth.ensures at (c.outer_turn.ensures.turned p.0 _ (c.loop-depth.invariant.inside p.0 p.1))).falls

pub loop-depth-preserved : goal.loop-depth-preserved
loop-depth-preserved c = record {
  kept = kept_on c.loop-depth.invariant.kept c.outer_turn.ensures.kept;
  inside = λ x root. (rw c.in_ok-depth.ensures at (c.outer_turn.ensures.turned x _ (c.loop-depth.invariant.inside x root))).at;
}

pub returns-in_err-depth-clause-searched : goal.returns-in_err-depth-clause-searched
returns-in_err-depth-clause-searched c x root =
    let met = c.in_err-depth.ensures in
    let is : c.in_err-depth.field-0.0 ≡ record { outer = c.loop-depth.depth; met = met.0 } = search rules in
    rw (c.from_residual.ensures, is) (rw met.1 at (c.outer_turn.ensures.turned x _ (c.loop-depth.invariant.inside x root)))
