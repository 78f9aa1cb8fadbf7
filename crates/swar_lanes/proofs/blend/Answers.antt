-- `blend` meets its contract: a lane of the two masks is full in one and empty in the other.
use native.Mathlib.Omega.{arith}
use Rattle.swar_lanes.proofs.LaneLaws.{blend_is}
use Rattle.swar_lanes.proofs.blend.Goals as goal

pub returns : goal.returns
returns c = blend_is _ c.args.u c.args.v c.clear-even.result c.ranges.u.fits c.ranges.v.fits (omega arith) c.clear-even.ensures
