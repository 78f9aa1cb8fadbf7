-- `row` meets its contract.
use Prim.Native.Nat.{ℕ, ◌+◌, ◌*◌}
use mathlib.Core.Path.{refl, sym, ◌∙◌}
use native.Mathlib.Nat.{mul_comm, mul-le-mul_right}
use native.Mathlib.Omega.{arith}
use lib.ListN.{length-set}
use Rattle.interleave_theory.proofs.PlaceLaws.{row_lt, column_lt, across_at, filled_next, filled_less}
use Rattle.interleave_rows.proofs.row.Goals as goal

pub overflow_mul-start : goal.overflow_mul-start
overflow_mul-start c = let a = c.args in omega (arith, mul-le-mul_right {m = a.s} {n = a.b} a.a (omega arith), mul_comm a.a a.b, c.requires.1)

pub loop-w-init : goal.loop-w-init
loop-w-init c = (omega arith, refl, filled_less _ _ _ _ _ _ (omega arith) c.requires.3)

pub overflow_mul-to : goal.overflow_mul-to
overflow_mul-to c = let a = c.args in omega (arith, row_lt a.a a.b c.loop-w.w a.s (omega arith) (omega arith), c.requires.0)

pub overflow_add-to : goal.overflow_add-to
overflow_add-to c = let a = c.args in omega (arith, row_lt a.a a.b c.loop-w.w a.s (omega arith) (omega arith), c.requires.0)

pub bounds-from-w : goal.bounds-from-w
bounds-from-w c = let a = c.args in omega (arith, row_lt a.a a.b c.loop-w.w a.s (omega arith) (omega arith), c.requires.0)

pub overflow_add-to-in-loop-w : goal.overflow_add-to-in-loop-w
overflow_add-to-in-loop-w c = let a = c.args in let l = c.loop-w in omega (arith, column_lt a.a a.b l.w a.s (omega arith) (omega arith), c.requires.1, l.invariant.1)

pub bounds-to-start : goal.bounds-to-start
bounds-to-start c = let a = c.args in let l = c.loop-w in omega (arith, column_lt a.a a.b l.w a.s (omega arith) (omega arith), c.requires.1, l.invariant.1)

pub loop-w-preserved : goal.loop-w-preserved
loop-w-preserved c =
    let l = c.loop-w in
    let a = c.args in
    let k : ℕ = a.s * a.a + l.w in (
      omega arith,
      length-set l.to k _ ∙ l.invariant.1,
      filled_less _ _ _ _ _ _ (omega arith) (filled_next a.a a.b k k (l.w * a.b + a.s) _ l.to refl (sym (across_at a.a a.b l.w a.s (omega arith)))
          (omega (arith, column_lt a.a a.b l.w a.s (omega arith) (omega arith), c.requires.1, l.invariant.1)) l.invariant.2),
    )

pub returns : goal.returns
returns c = let l = c.loop-w in
    record {
      places = filled_less _ _ _ _ _ _ (omega arith) l.invariant.2;
      size = l.invariant.1;
    }
