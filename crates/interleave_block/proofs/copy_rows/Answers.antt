-- `copy_rows` meets its contract.
use Prim.Native.Nat.{ℕ, ◌*◌, ◌≤◌, ◌<◌}
use native.Mathlib.Nat.{mul-le-mul_right}
use native.Mathlib.Omega.{arith}
use Rattle.interleave_block.proofs.CopyLaws.{rows_start, rows_next, rows_all}
use Rattle.interleave_block.proofs.copy_rows.Goals as goal

-- a row starts in front of the last one, or with it
before_last : (r a : ℕ) → r < 16 → r * a ≤ 15 * a
before_last r a h = mul-le-mul_right {m = r} {n = 15} a (omega (arith, h))

pub loop-r-init : goal.loop-r-init
loop-r-init c = (omega arith, rows_start _ _ _ _ _ _)

pub overflow_mul-r : goal.overflow_mul-r
overflow_mul-r c = omega (arith, before_last c.loop-r.r c.args.a (omega arith))

pub overflow_add-i : goal.overflow_add-i
overflow_add-i c = omega (arith, before_last c.loop-r.r c.args.a (omega arith))

pub overflow_mul-r-in-loop-r : goal.overflow_mul-r-in-loop-r
overflow_mul-r-in-loop-r c = let a = c.args in omega (arith, before_last c.loop-r.r a.b (omega arith))

pub overflow_add-j : goal.overflow_add-j
overflow_add-j c = let a = c.args in omega (arith, before_last c.loop-r.r a.b (omega arith))

pub copy-requires : goal.copy-requires
copy-requires c =
    let a = c.args in (
      omega (arith, before_last c.loop-r.r a.a (omega arith)),
      omega (arith, before_last c.loop-r.r a.b (omega arith), c.loop-r.invariant.1.size),
    )

pub loop-r-preserved : goal.loop-r-preserved
loop-r-preserved c =
    (omega arith, rows_next c.loop-r.r _ _ _ _ _ _ _ _ c.requires.2 c.loop-r.invariant.1 c.copy.ensures)

pub returns : goal.returns
returns c = let l = c.loop-r in rows_all l.r _ _ _ _ _ _ _ (omega arith) l.invariant.1
