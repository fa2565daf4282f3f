-- `lanes::TemporalNode::words` meets its contract: the four words are made of the lanes of the node and its operands. Assumes nothing.
use Rattle.filled.proofs.Truths.{node_lanes}
use Rattle.lanes.proofs.TemporalNode.words.Goals as goal

pub returns : goal.returns
returns c table node is here all =
    let self = c.args.self.numbered in
    node_lanes table node self.number c.args.s c.args.rows.now here is self.ready _ _ c.operand_lanes-a.ensures.first
    c.operand_lanes-a.ensures.second all c.now_word-at_once.result c.stay_word-stay.result
    (rw c.args.self.operator_is c.now_word-at_once.ensures)
    (rw c.args.self.operator_is c.stay_word-stay.ensures)
    c.row_lane-v.result c.carry_lane.result c.met_lane.result c.row_lane-v.ensures
    (c.carry_lane.ensures table node is here all)
    (rw c.args.self.operator_is c.met_lane.ensures)
