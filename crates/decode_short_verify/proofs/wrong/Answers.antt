-- `wrong` meets its contract: the places without an error are counted by the marks of their lanes.
use native.Mathlib.Omega.{arith}
use mathlib.Core.Path.{refl}
use Rattle.code_theory.specs.Sum.{sum, every}
use Rattle.swar_theory.specs.Internal.{digit}
use Rattle.decode_short_verify.proofs.VerifyLaws.{count_asks, count_le, wrong_4, wrong_8, wrong_first, wrong_both, wrong_at}
use Rattle.decode_short_verify.proofs.wrong.Goals as goal

pub marked_equal-requires : goal.marked_equal-requires
unfolding every sum digit
marked_equal-requires g c = count_asks c.args.first _ _ c.requires.2 refl refl refl

pub overflow_sub-result : goal.overflow_sub-result
unfolding sum digit
overflow_sub-result g c = count_le c.args.first _ _ 4 c.marked_equal.result refl c.marked_equal.ensures

pub marked_equal-requires-in-3 : goal.marked_equal-requires-in-3
unfolding every sum digit
marked_equal-requires-in-3 g c = count_asks c.args.first _ _ c.requires.2 refl refl refl

pub overflow_sub-result-in-3 : goal.overflow_sub-result-in-3
unfolding sum digit
overflow_sub-result-in-3 g c = count_le c.args.first _ _ 8 c.marked_equal-in-3.result refl c.marked_equal-in-3.ensures

pub returns-in-2 : goal.returns-in-2
returns-in-2 g c =
    let e = wrong_first 2 c.args.first c.args.second _ (omega arith) (wrong_4 c.args.first _ c.marked_equal.ensures) in
    wrong_at g.row.M 2 c.args.first c.args.second _ (omega arith) e

pub returns-in-3 : goal.returns-in-3
returns-in-3 g c =
    let e = wrong_first 3 c.args.first c.args.second _ (omega arith) (wrong_8 c.args.first _ c.marked_equal-in-3.ensures) in
    wrong_at g.row.M 3 c.args.first c.args.second _ (omega arith) e

pub returns-in-4 : goal.returns-in-4
returns-in-4 g c =
    let e = wrong_first 4 c.args.first c.args.second c.wrong_16.result (omega arith) c.wrong_16.ensures.0 in
    wrong_at g.row.M 4 c.args.first c.args.second _ (omega arith) e

pub returns-in_default : goal.returns-in_default
returns-in_default g c =
    let e = wrong_both c.args.first c.args.second _ _ c.wrong_16-in_default.ensures.0 c.wrong_16-in_default-2.ensures.0 in
    wrong_at g.row.M 5 c.args.first c.args.second _ (omega arith) e
