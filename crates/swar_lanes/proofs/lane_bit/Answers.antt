-- `lane_bit` meets its contract: the mask takes the remainder.
use Rattle.swar_lanes.proofs.LaneLaws.{lane_bit_code}
use Rattle.swar_lanes.proofs.lane_bit.Goals as goal

pub returns : goal.returns
returns c = lane_bit_code c.args.k
