-- The tests of the code on floats are those of the definitions. Assumes nothing.
use Prim.Native.Nat.{ℕ}
use mathlib.Core.Path.{◌≡◌, refl, ap, ap₂, sym, ◌∙◌}
use Rattle.std.proofs.Common.{Some, None}
use mathlib.Core.Bool.{Bool, true, false, not, ◌&&◌, cond}
use borrow.Author.Tests.{not-true, not-false}
use lib.IntN.{pos}
use lib.Ieee.{Float, binary32, of_bits, of_int, mul, neg, lt, le}
use Rattle.soft_theory.specs.Numbers.{f32}
use Rattle.soft_theory.specs.Complex.{Complex}
use Rattle.soft_theory.specs.Decision.{Decision, sure, unsure, refused, magnitude, is_decisive, decide_by, decide, is_sure, symbol}
use Rattle.soft_vote_sums.proofs.Steps.{zero_bits}
use Rattle.soft_decision.specs.Internal.{sure_symbol}

-- the numbers that the code writes
two_bits : of_bits binary32 1073741824 ≡ of_int binary32 (pos 2)
unfolding of_bits of_int
two_bits = refl

three_bits : of_bits binary32 1077936128 ≡ of_int binary32 (pos 3)
unfolding of_bits of_int
three_bits = refl

pub magnitude_is : (x : Float) → cond (lt x (of_bits binary32 0)) (neg x) x ≡ magnitude f32 x
unfolding magnitude
magnitude_is x = ap (λ o. cond (lt x o) (neg x) x) zero_bits

pub is_decisive_lem : (l s : Float) (b : Bool) → lt (of_bits binary32 0) l ≡ b
    → (b && le (mul binary32 (of_bits binary32 1077936128) s) (mul binary32 (of_bits binary32 1073741824) l)) ≡ is_decisive f32 l s
unfolding is_decisive
is_decisive_lem l s b e = ap₂ ◌&&◌ (sym e ∙ ap (λ t. lt t l) zero_bits) (ap₂ (λ x y. le (mul binary32 x s) (mul binary32 y l)) three_bits two_bits)

-- the symbol by the sign of x
by_sign : (x : Float) (a b : ℕ) → cond (lt (of_bits binary32 0) x) a b ≡ cond (f32.lt (f32.number 0) x) a b
by_sign x a b = ap (λ o. cond (lt o x) a b) zero_bits

-- the decision by the magnitudes x and y
module _ (z : Complex Float) (x y : Float) (t : Bool) (X : x ≡ magnitude f32 z.re) (Y : y ≡ magnitude f32 z.im) (T : t ≡ is_decisive f32 (cond (lt x y) y x) (cond (lt x y) x y)) where
  -- both symbols, and the one that is picked
  symbol_of : Bool → ℕ
  symbol_of u = cond u (cond (f32.lt (f32.number 0) z.im) 1 3) (cond (f32.lt (f32.number 0) z.re) 0 2)

  by_test : (u : Bool) → lt x y ≡ u → cond t (sure (symbol_of u) z) (unsure z) ≡ decide f32 z
  unfolding decide decide_by symbol_of
  by_test u e =
      ap (λ v. cond v (sure (symbol_of u) z) (unsure z)) (T ∙ ap (λ v. is_decisive f32 (cond v y x) (cond v x y)) e)
      ∙ ordered u
      ∙ ap (λ v. cond v (decide_by f32 z.im z.re 1 3 z) (decide_by f32 z.re z.im 0 2 z)) (sym e ∙ ap₂ lt X Y)
    where
      ordered : (u : Bool) → cond (is_decisive f32 (cond u y x) (cond u x y)) (sure (symbol_of u) z) (unsure z) ≡ cond u (decide_by f32 z.im z.re 1 3 z) (decide_by f32 z.re z.im 0 2 z)
      ordered true = ap₂ (λ a b. cond (is_decisive f32 a b) (sure (symbol_of true) z) (unsure z)) Y X
      ordered false = ap₂ (λ a b. cond (is_decisive f32 a b) (sure (symbol_of false) z) (unsure z)) X Y

  pub by_unsure : not t ≡ true → unsure z ≡ decide f32 z
  by_unsure e = ap (λ v. cond v (sure (symbol_of (lt x y)) z) (unsure z)) (sym (not-true t e)) ∙ by_test (lt x y) refl

  -- the symbols a by the real sum and b by the imaginary one, and the one that is picked
  pub by_sure : not t ≡ false → (a b c : ℕ) → a ≡ cond (lt (of_bits binary32 0) z.re) 0 2 → b ≡ cond (lt (of_bits binary32 0) z.im) 1 3 → c ≡ cond (lt x y) b a
      → sure c z ≡ decide f32 z
  unfolding symbol_of
  by_sure e a b c A B C =
      ap (λ n. sure n z) (C ∙ ap₂ (cond (lt x y)) (B ∙ by_sign z.im 1 3) (A ∙ by_sign z.re 0 2))
      ∙ ap (λ v. cond v (sure (symbol_of (lt x y)) z) (unsure z)) (sym (not-false t e))
      ∙ by_test (lt x y) refl

-- ---- the symbol that a decision tells
pub told_sure : (d : Decision Float) (k : ℕ) → is_sure d ≡ true → k ≡ symbol d → Some k ≡ sure_symbol d
unfolding is_sure symbol sure_symbol
told_sure (sure s z) k e f = ap Some f
told_sure (unsure z) k e f = absurd (cc)
told_sure (refused n) k e f = absurd (cc)

pub told_unsure : (d : Decision Float) → is_sure d ≡ false → None ≡ sure_symbol d
unfolding is_sure sure_symbol
told_unsure (sure s z) e = absurd (cc)
told_unsure (unsure z) e = refl
told_unsure (refused n) e = refl
