-- `nth_clear` meets its contract: what the mask picks is the remainder.
use native.Mathlib.Omega.{arith}
use Rattle.code_arith.proofs.ArithLaws.{low_mask, low_bits, nth_code}
use Rattle.code_arith.proofs.nth_clear.Goals as goal

pub overflow_sub-low : goal.overflow_sub-low
overflow_sub-low c = low_mask c.args.k c.requires.0

pub overflow_sub-result : goal.overflow_sub-result
overflow_sub-result c = omega (arith, (nth_code c.args.k c.args.j _ (low_bits c.args.k c.args.j c.requires.0)).0)

pub returns : goal.returns
returns c = (nth_code c.args.k c.args.j _ (low_bits c.args.k c.args.j c.requires.0)).1
