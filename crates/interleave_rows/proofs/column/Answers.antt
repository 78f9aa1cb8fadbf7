-- `column` meets its contract.
use Prim.Native.Nat.{◌+◌, ◌*◌}
use mathlib.Core.Path.{refl, ◌∙◌}
use native.Mathlib.Nat.{mul-le-mul_right}
use native.Mathlib.Omega.{arith}
use lib.ListN.{length-set}
use Rattle.interleave_theory.proofs.PlaceLaws.{row_lt, column_lt}
use Rattle.interleave_rows.proofs.ColumnLaws.{scattered_next, scattered_row}
use Rattle.interleave_rows.proofs.column.Goals as goal

pub overflow_mul-start : goal.overflow_mul-start
overflow_mul-start c = let a = c.args in omega (arith, mul-le-mul_right {m = a.w} {n = a.a} a.b (omega arith), c.requires.0)

pub loop-s-init : goal.loop-s-init
loop-s-init c = (omega arith, refl, c.requires.3)

pub overflow_add-to : goal.overflow_add-to
overflow_add-to c = let a = c.args in omega (arith, row_lt a.a a.b a.w c.loop-s.s (omega arith) (omega arith), c.requires.0)

pub bounds-from-start : goal.bounds-from-start
bounds-from-start c = let a = c.args in omega (arith, row_lt a.a a.b a.w c.loop-s.s (omega arith) (omega arith), c.requires.0)

pub overflow_mul-to : goal.overflow_mul-to
overflow_mul-to c = let a = c.args in let l = c.loop-s in omega (arith, column_lt a.a a.b a.w l.s (omega arith) (omega arith), c.requires.1, l.invariant.1)

pub overflow_add-to-in-loop-s : goal.overflow_add-to-in-loop-s
overflow_add-to-in-loop-s c = let a = c.args in let l = c.loop-s in omega (arith, column_lt a.a a.b a.w l.s (omega arith) (omega arith), c.requires.1, l.invariant.1)

pub bounds-to-s : goal.bounds-to-s
bounds-to-s c = let a = c.args in let l = c.loop-s in omega (arith, column_lt a.a a.b a.w l.s (omega arith) (omega arith), c.requires.1, l.invariant.1)

pub loop-s-preserved : goal.loop-s-preserved
loop-s-preserved c =
    let l = c.loop-s in
    let a = c.args in (
      omega arith,
      length-set l.to (l.s * a.a + a.w) _ ∙ l.invariant.1,
      scattered_next a.a a.b a.w l.s _ l.to (omega arith) (omega arith) (l.invariant.1 ∙ c.requires.1) l.invariant.2,
    )

pub returns : goal.returns
returns c = let l = c.loop-s in
    record {
      places = scattered_row _ _ _ l.s _ _ (omega arith) l.invariant.2;
      size = l.invariant.1;
    }
