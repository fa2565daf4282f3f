-- `lanes::Numbered::add_row` meets its contract: each turn adds the next state's lane. Assumes nothing.
use mathlib.Core.Path.{◌≡◌, sym, ◌∙◌}
use Prim.Native.Nat.{◌≤◌, ◌/◌}
use native.Mathlib.Omega.{arith}
use lib.ListN.{length}
use Rattle.filled.proofs.Rows.{row_more, rows_kept}
use Rattle.lanes.proofs.Numbered.add_row.Goals as goal

pub loop-s-preserved : goal.loop-s-preserved
loop-s-preserved c table node is stated count all =
    let at = c.loop-s in
    let so_far = at.invariant table node is stated count all in
    let few : table.states ≤ 64 = omega (arith, stated.count_is, c.requires.few_states) in
    row_more _ _ _ _ _ _ so_far (omega (arith, c.args.self.ready.low, c.requires.few_states))
    (c.truth_lane.ensures table node is (stated.labels_are at.s ∙ sym c.label.ensures) (omega (arith, stated.count_is)) count
    (rows_kept table _ _ _ _ few all so_far))

pub returns : goal.returns
returns c table node is stated count all =
    let at = c.loop-s in
    let passed : at.s ≡ length c.args.states.now / 3 = omega arith in
    rw passed at (at.invariant table node is stated count all)
