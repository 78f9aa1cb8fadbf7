-- `less` meets its contract: no lane borrows from the next.
use native.Mathlib.Omega.{arith}
use Rattle.swar_lanes.proofs.LaneLaws.{symbols_le, mask_lt, less_is}
use Rattle.swar_lanes.proofs.less.Goals as goal

pub overflow_add-result : goal.overflow_add-result
overflow_add-result c = omega (arith, symbols_le c.args.q c.args.y c.requires.0 c.ranges.y.fits c.requires.1, symbols_le c.args.q c.args.x c.requires.0 c.ranges.x.fits c.requires.2)

pub overflow_sub-result : goal.overflow_sub-result
overflow_sub-result c = omega (arith, symbols_le c.args.q c.args.y c.requires.0 c.ranges.y.fits c.requires.1, symbols_le c.args.q c.args.x c.requires.0 c.ranges.x.fits c.requires.2)

pub overflow_mul-result : goal.overflow_mul-result
overflow_mul-result c = record { fits = mask_lt c.args.q c.args.y c.args.x c.requires.0 c.ranges.y.fits c.ranges.x.fits c.requires.1 c.requires.2 }

pub returns : goal.returns
returns c = less_is c.args.q c.args.y c.args.x c.requires.0 c.ranges.y.fits c.ranges.x.fits c.requires.1 c.requires.2
