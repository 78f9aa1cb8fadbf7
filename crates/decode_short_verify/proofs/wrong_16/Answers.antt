-- `wrong_16` meets its contract: the places without an error are counted eight by eight.
use native.Mathlib.Omega.{arith}
use mathlib.Core.Path.{refl}
use Rattle.code_theory.specs.Sum.{sum, every}
use Rattle.swar_theory.specs.Internal.{digit}
use Rattle.decode_short_verify.proofs.VerifyLaws.{count_asks, count_le, wrong_16}
use Rattle.decode_short_verify.proofs.wrong_16.Goals as goal

pub marked_equal-requires : goal.marked_equal-requires
unfolding every sum digit
marked_equal-requires c = count_asks c.args.e _ _ c.requires refl refl refl

pub overflow_sub-result : goal.overflow_sub-result
unfolding sum digit
overflow_sub-result c = count_le c.args.e _ _ 16 c.marked_equal.result refl c.marked_equal.ensures

pub marked_equal-requires-2 : goal.marked_equal-requires-2
unfolding every sum digit
marked_equal-requires-2 c = count_asks c.args.e _ _ c.requires refl refl refl

pub overflow_sub-result-2 : goal.overflow_sub-result-2
unfolding sum digit
overflow_sub-result-2 c =
    let e = c.args.e in
    omega (arith, count_le e _ _ 8 c.marked_equal.result refl c.marked_equal.ensures, count_le e _ _ 8 c.marked_equal-2.result refl c.marked_equal-2.ensures)

pub returns : goal.returns
returns c = wrong_16 c.args.e _ c.marked_equal.result c.marked_equal-2.result c.marked_equal.ensures c.marked_equal-2.ensures refl
