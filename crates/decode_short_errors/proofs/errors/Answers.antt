-- `errors` meets its contract: the code is subtracted first, then the constant.
use mathlib.Core.Path.{refl}
use native.Mathlib.Omega.{arith}
use Rattle.code_theory.specs.Sum.{every}
use Rattle.code_theory.proofs.WordLaws.{bounds}
use Rattle.swar_theory.specs.Internal.{digit}
use Rattle.swar_lanes.proofs.LaneLaws.{less_below}
use Rattle.swar_count.proofs.EqualLaws.{mask_is}
use Rattle.decode_short_errors.proofs.PlaceLaws.{part_below, errors_are}
use Rattle.decode_short_errors.proofs.errors.Goals as goal

pub overflow_mul-a : goal.overflow_mul-a
overflow_mul-a c = record { fits = omega (arith, bounds c.args.q c.requires.0, c.requires.3) }

pub less-requires-2 : goal.less-requires-2
unfolding every digit
less-requires-2 c =
    (c.requires.0, less_below c.args.q _ _ c.less.result c.requires.0 c.less.ensures, part_below c.args.q c.args.a _ c.requires.0 (omega arith) c.requires.3 (mask_is _ refl))

pub returns : goal.returns
returns c =
    errors_are c.args.q c.args.x c.args.code c.args.a c.less.result c.less-2.result c.requires.0 c.requires.3 c.less.ensures c.less-2.ensures
