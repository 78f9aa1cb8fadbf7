-- `lane_step` meets its contract: nothing is shifted out.
use Rattle.swar_lanes.proofs.LaneLaws.{lane_step_code}
use Rattle.swar_lanes.proofs.lane_step.Goals as goal

pub returns : goal.returns
returns c = lane_step_code c.lane_bit.result c.args.k c.lane_bit.ensures.0 c.lane_bit.ensures.1
