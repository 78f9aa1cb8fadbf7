-- The decision by whole sums is that of the whole numbers. Assumes nothing.
use mathlib.Core.Path.{◌≡◌, refl, ap₂}
use Prim.Native.Nat.{ℕ, ◌*◌, ◌≤◌}
use native.Mathlib.Omega.{arith}
use mathlib.Core.Bool.{Bool, true, false, ◌&&◌, cond}
use lib.IntN.{ℤ, pos, neg_ℤ, ◌*ℤ◌, nat_abs}
use lib.Ieee.{Float}
use Rattle.soft_theory.specs.Numbers.{f32, integers}
use Rattle.soft_theory.specs.Complex.{Complex}
use Rattle.soft_theory.specs.Decision.{Decision, sure, unsure, refused, magnitude, is_decisive, decide_by, decide, is_sure, symbol}
use Rattle.soft_exact_theory.specs.Whole.{Whole, WholeParts, Within, Same}
use Rattle.soft_exact_theory.proofs.Integers.{abs_neg, abs_mul}
use Rattle.soft_exact_theory.proofs.WholeLaws.{whole_mul, whole_neg, whole_number, whole_lt, whole_le}

magnitude_whole : (x : Float) (a : ℤ) → Whole x a → Whole (magnitude f32 x) (magnitude integers a)
unfolding magnitude
magnitude_whole x a w = rw (whole_lt x (f32.number 0) a (pos 0) w (whole_number 0 (omega arith))) (go (integers.lt a (pos 0)))
  where
    go : (t : Bool) → Whole (cond t (f32.neg x) x) (cond t (neg_ℤ a) a)
    go true = whole_neg x a w
    go false = w

pub magnitude_abs : (a : ℤ) → nat_abs (magnitude integers a) ≡ nat_abs a
unfolding magnitude
magnitude_abs a = go (integers.lt a (pos 0))
  where
    go : (t : Bool) → nat_abs (cond t (neg_ℤ a) a) ≡ nat_abs a
    go true = abs_neg a
    go false = refl

-- three times the sums stays below 2 ^ 24
module _ (l s : Float) (a b : ℤ) (L : Whole l a) (S : Whole s b) (h : 3 * nat_abs a ≤ 16777216) (k : 3 * nat_abs b ≤ 16777216) where
  decisive_whole : is_decisive f32 l s ≡ is_decisive integers a b
  unfolding is_decisive
  decisive_whole = ap₂ ◌&&◌ (whole_lt (f32.number 0) l (pos 0) a (whole_number 0 (omega arith)) L)
      (whole_le _ _ (pos 3 *ℤ b) (pos 2 *ℤ a)
      (whole_mul (f32.number 3) s (pos 3) b (whole_number 3 (omega arith)) S (omega (arith, abs_mul (pos 3) b)))
      (whole_mul (f32.number 2) l (pos 2) a (whole_number 2 (omega arith)) L (omega (arith, abs_mul (pos 2) a))))

module _ (x : Complex Float) (z : Complex ℤ) (w : WholeParts x z) (B : ℕ) (h : Within B z) (fits : 3 * B ≤ 16777216) where
  by_whole : (l s : Float) (a b : ℤ) (p n : ℕ) → Whole l a → Whole s b → nat_abs a ≤ B → nat_abs b ≤ B → Same (decide_by f32 l s p n x) (decide_by integers a b p n z)
  unfolding decide_by Same
  by_whole l s a b p n L S i j =
      rw (
        decisive_whole (magnitude f32 l) (magnitude f32 s) (magnitude integers a) (magnitude integers b) (magnitude_whole l a L) (magnitude_whole s b S)
            (omega (arith, magnitude_abs a)) (omega (arith, magnitude_abs b)),
        whole_lt (f32.number 0) l (pos 0) a (whole_number 0 (omega arith)) L,
      )
      (go (is_decisive integers (magnitude integers a) (magnitude integers b)) (integers.lt (pos 0) a))
    where
      go : (t u : Bool) → Same (cond t (sure (cond u p n) x) (unsure x)) (cond t (sure (cond u p n) z) (unsure z))
      go true u = (refl, w)
      go false u = w

  -- EXACT DECISION: the same symbol, or unsure alike
  pub decide_whole : Same (decide f32 x) (decide integers z)
  unfolding decide
  decide_whole =
      rw (whole_lt (magnitude f32 x.re) (magnitude f32 x.im) (magnitude integers z.re) (magnitude integers z.im) (magnitude_whole _ _ w.re) (magnitude_whole _ _ w.im))
      (go (integers.lt (magnitude integers z.re) (magnitude integers z.im)))
    where
      go : (t : Bool)
          → Same (cond t (decide_by f32 x.im x.re 1 3 x) (decide_by f32 x.re x.im 0 2 x))
          (cond t (decide_by integers z.im z.re 1 3 z) (decide_by integers z.re z.im 0 2 z))
      go true = by_whole x.im x.re z.im z.re 1 3 w.im w.re h.im (omega (arith, h.re))
      go false = by_whole x.re x.im z.re z.im 0 2 w.re w.im (omega (arith, h.re)) h.im

pub same_sure : (d : Decision Float) (e : Decision ℤ) → Same d e → is_sure d ≡ is_sure e
unfolding Same is_sure
same_sure (sure s x) (sure t z) h = refl
same_sure (sure s x) (unsure z) h = absurd h
same_sure (sure s x) (refused n) h = absurd h
same_sure (unsure x) (sure t z) h = absurd h
same_sure (unsure x) (unsure z) h = refl
same_sure (unsure x) (refused n) h = refl
same_sure (refused n) (sure t z) h = absurd h
same_sure (refused n) (unsure z) h = refl
same_sure (refused n) (refused k) h = refl

pub same_symbol : (d : Decision Float) (e : Decision ℤ) → Same d e → symbol d ≡ symbol e
unfolding Same symbol
same_symbol (sure s x) (sure t z) h = h.0
same_symbol (sure s x) (unsure z) h = absurd h
same_symbol (sure s x) (refused n) h = absurd h
same_symbol (unsure x) (sure t z) h = absurd h
same_symbol (unsure x) (unsure z) h = refl
same_symbol (unsure x) (refused n) h = refl
same_symbol (refused n) (sure t z) h = absurd h
same_symbol (refused n) (unsure z) h = refl
same_symbol (refused n) (refused k) h = refl
