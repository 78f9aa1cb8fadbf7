-- Laws of the decisions, for every kind of numbers. Assumes nothing.
use Prim.Native.Nat.{ℕ, zero, suc, ◌%◌, ◌^◌, ◌<◌}
use mathlib.Core.Path.{◌≡◌, refl, ap, ◌∙◌}
use mathlib.Core.Bool.{Bool, true, false, cond, ◌&&◌}
use native.Mathlib.Omega.{arith}
use Rattle.code_theory.specs.Sum.{every}
use Rattle.code_theory.proofs.CodeLaws.{linear_ext}
use Rattle.soft_theory.specs.Numbers.{Numbers}
use Rattle.soft_theory.specs.Complex.{Complex, turn_back}
use Rattle.soft_theory.specs.Decision.{sure, unsure, magnitude, is_decisive, decide_by, decide, is_sure, symbol}
use Rattle.soft_theory.specs.Soft.{vote_sums, coefficient, constant_sums, decision, all_sure}
use Rattle.soft_theory.proofs.SumsLaws.{sums_ext}

-- the first test taken out
every_first : (n : ℕ) (b : ℕ → Bool) → every (suc n) b ≡ (b 0 && every n (λ k. b (suc k)))
unfolding every
every_first zero b = and_true (b 0)
  where
    and_true : (t : Bool) → (true && t) ≡ (t && true)
    and_true true = refl
    and_true false = refl
every_first (suc n) b = ap (λ t. t && b (suc n)) (every_first n b) ∙ and_assoc (b 0) (every n (λ k. b (suc k))) (b (suc n))
  where
    and_assoc : (x y z : Bool) → ((x && y) && z) ≡ (x && (y && z))
    and_assoc true y z = refl
    and_assoc false y z = refl

module _ {A : Type 0} (N : Numbers A) where
  -- a decided symbol is one of the four
  pub symbol_lt : (z : Complex A) → symbol (decide N z) < 4
  unfolding decide decide_by symbol
  symbol_lt z = go (N.lt (magnitude N z.re) (magnitude N z.im)) (is_decisive N (magnitude N z.im) (magnitude N z.re)) (is_decisive N (magnitude N z.re) (magnitude N z.im))
      (N.lt (N.number 0) z.im) (N.lt (N.number 0) z.re)
    where
      go : (a b c d e : Bool) → symbol (cond a (cond b (sure (cond d 1 3) z) (unsure z)) (cond c (sure (cond e 0 2) z) (unsure z))) < 4
      go true true c true e = omega arith
      go true true c false e = omega arith
      go true false c d e = omega arith
      go false b true d true = omega arith
      go false b true d false = omega arith
      go false b false d e = omega arith

  -- the constant's sums depend only on the m coefficients
  pub constant_ext : (m : ℕ) (c d : ℕ → ℕ) (y : ℕ → Complex A) → ((k : ℕ) → k < m → c k ≡ d k) → constant_sums N m c y ≡ constant_sums N m d y
  unfolding constant_sums
  constant_ext m c d y h = sums_ext N (2 ^ m) _ _ _ (λ i l. ap (λ t. turn_back N (t % 4) (y i)) (linear_ext m c d h i))

  -- all are sure: the constant, and every coefficient
  pub all_sure_lem : (m : ℕ) (y : ℕ → Complex A)
      → all_sure N m y ≡ (is_sure (decide N (constant_sums N m (coefficient N m y) y)) && every m (λ k. is_sure (decide N (vote_sums N m k y))))
  unfolding all_sure decision
  all_sure_lem m y = every_first m (λ k. is_sure (decision N m y k))
