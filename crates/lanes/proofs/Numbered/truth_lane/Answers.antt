-- `lanes::Numbered::truth_lane` meets its contract: a plain node's lane is the word that its operator makes of its atom and its operands'
-- lanes, a temporal node's its pattern. Assumes nothing.
use Prim.Native.Nat.{◌≤◌, ◌<◌}
use mathlib.Core.Path.{◌≡◌, sym, ap, ◌∙◌}
use Rattle.bits.specs.Bits.{bit}
use Rattle.rule.specs.Operator.{plain_code, code}
use Rattle.rule.proofs.Codes.{plain_code_below, temporal_code_within, atom_code}
use Rattle.product.proofs.Truth.{truth_temporal}
use Rattle.filled.proofs.Lane.{lane_same}
use Rattle.filled.proofs.Truths.{plain_lane}
use Rattle.lanes.proofs.Numbered.truth_lane.Goals as goal

pub returns-in-Plain : goal.returns-in-Plain
returns-in-Plain c table node is label here count all =
    let self = c.args.self in
    let low : code self.node.operator < 6 = rw c.in-Plain.is (plain_code_below c.in-Plain.operator) in
    plain_lane table node self.number c.args.s c.args.rows.now here is self.ready _ _ c.operand_lanes-a.ensures.first
    c.operand_lanes-a.ensures.second c.atom_lane.result c.word.result all low
    (λ e.
    let atom : plain_code c.in-Plain.operator ≡ 1 = sym (ap code c.in-Plain.is) ∙ e in
    rw label (c.atom_lane.ensures (atom_code c.in-Plain.operator atom)))
    (rw c.in-Plain.is c.word.ensures)

pub returns-in-Temporal : goal.returns-in-Temporal
returns-in-Temporal c table node is label here count all =
    let self = c.args.self in
    let high : 6 ≤ code self.node.operator = rw c.in-Temporal.is (temporal_code_within c.in-Temporal.field-0).0 in
    lane_same c.pattern.ensures (λ b l. ap (bit b) count ∙ sym (truth_temporal table node c.args.s b self.number (rw is high)))
