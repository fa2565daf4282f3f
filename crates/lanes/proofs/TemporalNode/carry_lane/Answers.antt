-- `lanes::TemporalNode::carry_lane` meets its contract: X reads its operand's row, another operator its own. Assumes nothing.
use native.Mathlib.Omega.{arith}
use mathlib.Core.Path.{◌≡◌, sym, ap, ◌∙◌}
use Rattle.rule.specs.Operator.{temporal_code}
use Rattle.rule.proofs.Codes.{promise_code}
use Rattle.filled.proofs.Truths.{carry_next, carry_self}
use Rattle.lanes.proofs.TemporalNode.carry_lane.Goals as goal

pub returns-in-X : goal.returns-in-X
returns-in-X c table node is here all =
    let self = c.args.self.numbered in
    carry_next table node self.number c.args.s c.args.rows.now here is self.ready all c.row_lane.result
    (c.args.self.operator_is ∙ ap temporal_code c.in-X.is)
    c.row_lane.ensures

pub returns-in_default : goal.returns-in_default
returns-in_default c table node is here all =
    let self = c.args.self.numbered in
    carry_self table node self.number c.args.s c.args.rows.now here is self.ready all c.row_lane-in_default.result
    (λ e. let next : temporal_code c.args.self.operator ≡ 6 = sym c.args.self.operator_is ∙ e in absurd (omega (arith, promise_code c.args.self.operator c.in_default.not-X)))
    c.row_lane-in_default.ensures
