-- `lanes::met_lane` meets its contract: the pole says which of the two words it is. Assumes nothing.
use Rattle.meaning.specs.Laws.{greatest}
use Rattle.rule.specs.Operator.{temporal_code}
use Rattle.filled.proofs.Lane.{lane_of_word, lane_itself, lane_not, lane_or, all_ones, not_all_ones}
use Rattle.lanes.proofs.met_lane.Goals as goal

pub returns-then-pole_word-eq-ONES : goal.returns-then-pole_word-eq-ONES
returns-then-pole_word-eq-ONES c =
    let pole = all_ones (greatest (temporal_code c.args.operator)) (lane_of_word c.pole_word.ensures) c.if-pole_word-eq-ONES.true in
    rw pole (lane_or (lane_itself c.ranges.v.fits) (lane_not (lane_itself c.ranges.stay.fits)))

pub returns-else-pole_word-eq-ONES : goal.returns-else-pole_word-eq-ONES
returns-else-pole_word-eq-ONES c =
    let pole = not_all_ones (greatest (temporal_code c.args.operator)) (lane_of_word c.pole_word.ensures) c.if-pole_word-eq-ONES.false in
    rw pole (lane_or (lane_not (lane_itself c.ranges.v.fits)) (lane_itself c.ranges.at_once.fits))
