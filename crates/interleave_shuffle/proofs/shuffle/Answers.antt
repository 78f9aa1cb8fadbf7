-- `shuffle` meets its contract.
use Prim.Native.Nat.{ℕ, ◌+◌, ◌*◌, ◌<◌}
use mathlib.Core.Path.{◌≡◌, refl, ap, sym, ◌∙◌}
use native.Mathlib.Omega.{arith}
use lib.ListN.{length, set, length-set}
use mathlib.Core.List.{List}
use Rattle.code_theory.specs.Sum.{at}
use Rattle.interleave_theory.specs.Place.{across}
use Rattle.interleave_theory.specs.Internal.{Filled}
use Rattle.interleave_theory.proofs.PlaceLaws.{across_at, filled_next, filled_less}
use Rattle.interleave_shuffle.proofs.shuffle.Goals as goal

-- where the two symbols that a round writes come from
first_from : (half i : ℕ) → i ≡ across 2 half (2 * i)
first_from half i = let e : i * 2 + 0 ≡ 2 * i = omega arith in sym (across_at 2 half 0 i (omega arith) ∙ omega arith) ∙ ap (across 2 half) e

second_from : (half i : ℕ) → half + i ≡ across 2 half (2 * i + 1)
second_from half i = let e : i * 2 + 1 ≡ 2 * i + 1 = omega arith in sym (across_at 2 half 1 i (omega arith) ∙ omega arith) ∙ ap (across 2 half) e

two_more : (half i : ℕ) (x y : List ℕ) → 2 * i + 1 < length y → Filled 2 half (2 * i) x y
    → Filled 2 half (2 * (i + 1)) x (set (set y (2 * i) (at x i)) (2 * i + 1) (at x (half + i)))
two_more half i x y l f =
    filled_less 2 half (2 * i + 1 + 1) (2 * (i + 1)) x _ (omega arith)
    (filled_next 2 half (2 * i + 1) (2 * i + 1) (half + i) x (set y (2 * i) (at x i)) refl (second_from half i) (omega (arith, l, length-set y (2 * i) (at x i)))
    (filled_next 2 half (2 * i) (2 * i) i x y refl (first_from half i) (omega arith) f))

pub loop-i-init : goal.loop-i-init
loop-i-init c = (omega arith, refl, record { places = λ p h. absurd (omega (arith, h)) })

pub bounds-to-i-in-loop-i : goal.bounds-to-i-in-loop-i
bounds-to-i-in-loop-i c =
    omega (arith, length-set c.loop-i.to (2 * c.loop-i.i) (at c.args.from.now c.loop-i.i), c.loop-i.invariant.1)

pub loop-i-preserved : goal.loop-i-preserved
loop-i-preserved c =
    let a = c.args in
    let x : ℕ = at a.from.now c.loop-i.i in (
      omega arith,
      length-set (set c.loop-i.to (2 * c.loop-i.i) x) (2 * c.loop-i.i + 1) _ ∙ length-set c.loop-i.to (2 * c.loop-i.i) x ∙ c.loop-i.invariant.1,
      two_more a.half c.loop-i.i a.from.now c.loop-i.to (omega (arith, c.loop-i.invariant.1)) c.loop-i.invariant.2,
    )

pub returns : goal.returns
returns c = let l = c.loop-i in
    record {
      places = filled_less _ _ _ _ _ _ (omega arith) l.invariant.2;
      size = l.invariant.1;
    }
