-- A test of every number below n. Assumes nothing.
use Prim.Native.Nat.{ℕ, zero, suc, ◌<◌}
use mathlib.Core.Path.{◌≡◌, refl, ap₂, sym, ◌∙◌}
use mathlib.Core.Logic.{◌⊎◌, inl, inr}
use mathlib.Core.Bool.{Bool, true, false, ◌&&◌}
use native.Mathlib.Nat.{not-suc-le-zero, eq-or-lt_of_le, le_of_suc-le-suc}
use native.Mathlib.Omega.{arith}
use Rattle.code_theory.specs.Sum.{every}
use Rattle.code_theory.proofs.QuestionLaws.{and_true}

pub every_ext : (n : ℕ) (b c : ℕ → Bool) → ((i : ℕ) → i < n → b i ≡ c i) → every n b ≡ every n c
unfolding every
every_ext zero b c h = refl
every_ext (suc n) b c h = ap₂ ◌&&◌ (every_ext n b c (λ i l. h i (omega arith))) (h n (omega arith))

pub every_at : (n : ℕ) (b : ℕ → Bool) → every n b ≡ true → (i : ℕ) → i < n → b i ≡ true
unfolding every
every_at zero b e i l = absurd (not-suc-le-zero l)
every_at (suc n) b e i l = let (f, g) = and_true (every n b) (b n) e in go g (λ m. every_at n b f i m) (eq-or-lt_of_le (le_of_suc-le-suc l))
  where
    go : b n ≡ true → (i < n → b i ≡ true) → (i ≡ n) ⊎ (i < n) → b i ≡ true
    go g ih (inl z) = rw z g
    go g ih (inr m) = ih m

pub every_of : (n : ℕ) (b : ℕ → Bool) → ((i : ℕ) → i < n → b i ≡ true) → every n b ≡ true
unfolding every
every_of zero b h = refl
every_of (suc n) b h = rw (every_of n b (λ i l. h i (omega arith)), h n (omega arith))

-- one no is a no for all
pub every_no : (n : ℕ) (b : ℕ → Bool) (i : ℕ) → i < n → b i ≡ false → every n b ≡ false
every_no n b i l e = go (every n b) refl
  where
    go : (t : Bool) → every n b ≡ t → t ≡ false
    go true f = sym (every_at n b f i l) ∙ e
    go false f = refl
