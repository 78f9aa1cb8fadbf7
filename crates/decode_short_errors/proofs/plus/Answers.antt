-- `plus` meets its contract: no lane carries into the next.
use native.Mathlib.Omega.{arith}
use Rattle.code_theory.proofs.WordLaws.{bounds}
use Rattle.decode_short_errors.proofs.PlaceLaws.{part_lt, plus_lt, plus_is}
use Rattle.decode_short_errors.proofs.plus.Goals as goal

pub overflow_mul-result : goal.overflow_mul-result
overflow_mul-result c = record { fits = part_lt c.args.q c.args.a c.args.marks c.requires.0 c.ranges.marks.fits c.requires.2 c.requires.3 }

pub overflow_add-result : goal.overflow_add-result
overflow_add-result c = record { fits = plus_lt c.args.q c.args.a c.args.marks c.requires.0 c.ranges.marks.fits c.requires.2 c.requires.3 c.args.c c.ranges.c.fits c.requires.1 }

pub overflow_mul-result-2 : goal.overflow_mul-result-2
overflow_mul-result-2 c = record { fits = omega (arith, bounds c.args.q c.requires.0) }

pub returns : goal.returns
returns c = plus_is c.args.q c.args.a c.args.marks c.requires.0 c.ranges.marks.fits c.requires.2 c.requires.3 c.args.c c.ranges.c.fits c.requires.1
