-- `equal` meets its contract: no lane carries into the next.
use native.Mathlib.Omega.{arith}
use Rattle.swar_count.proofs.EqualLaws.{xored_le, equal_is}
use Rattle.swar_count.proofs.equal.Goals as goal

pub overflow_add-result : goal.overflow_add-result
overflow_add-result c = record { fits = omega (arith, xored_le c.args.d c.args.v c.args.c c.ranges.d.fits c.requires.0 c.requires.1 c.requires.2) }

pub overflow_sub-result : goal.overflow_sub-result
overflow_sub-result c = omega (arith, xored_le c.args.d c.args.v c.args.c c.ranges.d.fits c.requires.0 c.requires.1 c.requires.2)

pub returns : goal.returns
returns c = equal_is c.args.d c.args.v c.args.c c.ranges.d.fits c.requires.0 c.requires.1 c.requires.2
