-- `apart` meets its contract: nothing is shifted out.
use Rattle.swar_lanes.proofs.LaneLaws.{apart_code}
use Rattle.swar_lanes.proofs.apart.Goals as goal

pub returns : goal.returns
returns c = apart_code c.lane_bit.result c.args.k c.lane_bit.ensures.0 c.lane_bit.ensures.1
