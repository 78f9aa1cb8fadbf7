-- `code` meets its contract: one coefficient after the other, each where its bit of the place is 1.
use mathlib.Core.Path.{refl}
use native.Mathlib.Omega.{arith}
use Rattle.code_theory.specs.Sum.{every}
use Rattle.swar_theory.specs.Internal.{digit}
use Rattle.swar_lanes.proofs.LaneLaws.{none_below}
use Rattle.swar_count.proofs.EqualLaws.{mask_is}
use Rattle.decode_short_errors.proofs.PlaceLaws.{plus_below, code_is}
use Rattle.decode_short_errors.proofs.code.Goals as goal

pub plus-x-requires : goal.plus-x-requires
unfolding every digit
plus-x-requires c = (c.requires.0, none_below c.args.q c.requires.0, c.requires.1 0 (omega arith), mask_is _ refl)

pub plus-x-requires-2 : goal.plus-x-requires-2
unfolding every digit
plus-x-requires-2 c =
    (c.requires.0, plus_below c.args.q c.plus-x.result _ c.requires.0 c.plus-x.ensures, c.requires.1 1 (omega arith), mask_is _ refl)

pub plus-x-requires-3 : goal.plus-x-requires-3
unfolding every digit
plus-x-requires-3 c =
    (c.requires.0, plus_below c.args.q c.plus-x-2.result _ c.requires.0 c.plus-x-2.ensures, c.requires.1 2 (omega arith), mask_is _ refl)

pub plus-requires : goal.plus-requires
unfolding every digit
plus-requires c =
    (c.requires.0, plus_below c.args.q c.plus-x-3.result _ c.requires.0 c.plus-x-3.ensures, c.requires.1 3 (omega arith), mask_is _ refl)

pub returns : goal.returns
returns c =
    code_is c.args.q c.args.symbols.now _ _ _ c.plus.result
    c.plus-x.ensures c.plus-x-2.ensures c.plus-x-3.ensures c.plus.ensures
