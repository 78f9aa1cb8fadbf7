-- The questions as the code asks them, and what a yes to all of them says. Assumes nothing.
use Prim.Native.Nat.{ℕ, zero, suc, ◌^◌, ◌<◌}
use mathlib.Core.Path.{◌≡◌, refl, ap, ap₂, sym, ◌∙◌}
use mathlib.Core.Bool.{Bool, true, ◌&&◌}
use mathlib.Core.List.{List}
use native.Mathlib.Omega.{arith}
use borrow.Author.Tests.{eqb-true, ltb-true}
use lib.Dec.{eqb}
use lib.ListN.{length}
use lib.Ieee.{Float}
use Rattle.code_theory.proofs.QuestionLaws.{and_true, ask_yes, variables_bounds}
use Rattle.soft_theory.specs.Numbers.{f32}
use Rattle.soft_theory.specs.Complex.{Complex, sample}
use Rattle.soft_theory.specs.Decision.{refused, decide}
use Rattle.soft_theory.specs.Soft.{vote_sums, vote_refusal, vote_answer, soft_vote}
use Rattle.soft_vote_sums.specs.Internal.{Sized}
use Rattle.soft.specs.Internal.{sample_refusal}

-- ---- question 7 as the code asks it: n is the size
pub sizes_are : (m n : ℕ) (re im : List Float) (a : Bool) → n ≡ 2 ^ m → eqb (length re) n ≡ a → (a && eqb (length im) n) ≡ (eqb (length re) (2 ^ m) && eqb (length im) (2 ^ m))
sizes_are m n re im a p e = ap₂ ◌&&◌ (sym e ∙ ap (eqb (length re)) p) (ap (eqb (length im)) p)

-- where both have their size
pub sizes : (m : ℕ) (re im : List Float) → (eqb (length re) (2 ^ m) && eqb (length im) (2 ^ m)) ≡ true → (length re ≡ 2 ^ m) × (length im ≡ 2 ^ m)
sizes m re im e = let (a, b) = and_true _ _ e in (eqb-true _ _ a, eqb-true _ _ b)

-- ---- one soft vote
module _ (m k : ℕ) (re im : List Float) where
  pub vote_accepted : vote_refusal f32 m k re im ≡ 0 → Sized m re im × (k < m)
  unfolding vote_refusal
  vote_accepted e =
      let (a, e) = ask_yes _ 1 _ e in
      let (b, e) = ask_yes _ 6 _ e in
      let (c, e) = ask_yes _ 6 _ e in
      let (d, e) = ask_yes _ 9 _ e in
      let (k-in, e) = ask_yes _ 11 _ e in
      let (low, high) = variables_bounds m a in
      (record { low = low; high = high; reals = eqb-true _ _ b; imaginaries = eqb-true _ _ c }, ltb-true k m k-in)

  -- the answer by that number
  pub vote_refused : (n : ℕ) → n ≡ vote_refusal f32 m k re im → 0 < n → refused n ≡ soft_vote f32 m k re im
  unfolding soft_vote vote_answer
  vote_refused zero e h = absurd (omega arith)
  vote_refused (suc n) e h = rw (← e) refl

  pub vote_given : 0 ≡ vote_refusal f32 m k re im → (z : Complex Float) → z ≡ vote_sums f32 m k (sample f32 re im) → decide f32 z ≡ soft_vote f32 m k re im
  unfolding soft_vote vote_answer
  vote_given e z f = rw (← e) (ap (decide f32) f)

-- four samples
pub four_votes : (m k : ℕ) (re im : List Float) (z : Complex Float) → m ≡ 2 → z ≡ vote_sums f32 2 k (sample f32 re im) → z ≡ vote_sums f32 m k (sample f32 re im)
four_votes m k re im z e g = g ∙ ap (λ o. vote_sums f32 o k (sample f32 re im)) (sym e)

-- ---- the soft read
pub read_accepted : (m size : ℕ) (re im : List Float) → sample_refusal m size re im ≡ 0 → Sized m re im × (size ≡ suc m)
unfolding sample_refusal
read_accepted m size re im e =
    let (a, e) = ask_yes _ 1 _ e in
    let (s, e) = ask_yes _ 4 _ e in
    let (b, e) = ask_yes _ 6 _ e in
    let (c, e) = ask_yes _ 6 _ e in
    let (low, high) = variables_bounds m a in
    (record { low = low; high = high; reals = eqb-true _ _ b; imaginaries = eqb-true _ _ c }, eqb-true _ _ s)
