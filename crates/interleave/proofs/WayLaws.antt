-- What a way of moving a group answers and leaves. Assumes nothing.
use Rattle.std.proofs.Common.{ℕ, ◌*◌, ◌/◌, ◌^◌, ◌≤◌, ◌≡◌, Bool, true, false, List, refl, sym, ap, ◌∙◌, arith}
use mathlib.Core.Path.{ap₂, subst, subst₂}
use lib.Pow.{pow_pos}
use Rattle.std.proofs.Math.Nat.{mul-div_cancel_left}
use Rattle.code_theory.specs.Question.{ask, is_alphabet, is_variables, after}
use Rattle.code_questions.specs.declared.Refusal.{Refusal}
use Rattle.code_questions.specs.Refusal.{number}
use Rattle.code_questions.proofs.RefusalLaws.{number_some, refused_after}
use Rattle.interleave_theory.specs.Place.{transposed}
use Rattle.interleave_theory.specs.Group.{is_group, group_refusal}
use Rattle.interleave_theory.specs.Internal.{moved_target, Checked}
use Rattle.interleave_theory.proofs.GroupLaws.{group_yes, group_limit, sixteen_places, moved_checked}

-- a question that is answered no
pub no_asked : (b : Bool) (n : ℕ) (r : Refusal) → number r ≡ ask b n 0 → (b ≡ false) × (number r ≡ n)
unfolding ask
no_asked true n r e = absurd (omega (arith, e, number_some r))
no_asked false n r e = (refl, e)

-- a refused call leaves the target as it was
pub moved_no : (q m count a b : ℕ) (x t : List ℕ) (r : Refusal) → number r ≡ group_refusal q m count x t → (number r ≡ group_refusal q m count x t) × (t ≡ moved_target a b q m count x t)
unfolding moved_target
moved_no q m count a b x t r e = (e, sym (refused_after r (transposed a b x) t) ∙ ap (λ k. after k (transposed a b x) t) e)

-- words of sixteen places, moved by a way that has so many rows and columns
module _ (q count : ℕ) (rows columns : ℕ → ℕ → ℕ) (x t : List ℕ) (alphabet : is_alphabet q ≡ true) (whole : (count n : ℕ) → rows count n * columns count n ≡ count * n) where
  -- so many of them that shuffles do it
  pub small_moves : (k half times : ℕ) → k ≡ count → 1 ≤ k → k ≤ 16 → 2 * half ≡ k * 16 → 2 ^ times ≡ rows k 16
      → (n : ℕ) (y : List ℕ) → Checked q (2 ^ times) (2 * half / 2 ^ times) x t n y → (n ≡ group_refusal q 4 count x t) × (y ≡ moved_target (rows count 16) (columns count 16) q 4 count x t)
  small_moves k half times e low high size made n y c =
      let r : 2 ^ times ≡ rows count 16 = made ∙ ap (λ i. rows i 16) e in
      let w : rows count 16 * columns count 16 ≡ count * 16 = whole count 16 in
      let s : 2 ^ times * columns count 16 ≡ 2 * half = ap (λ i. i * columns count 16) r ∙ w ∙ ap (λ i. i * 16) (sym e) ∙ sym size in
      let d : 2 * half / 2 ^ times ≡ columns count 16 = ap (λ i. i / 2 ^ times) (sym s) ∙ mul-div_cancel_left (columns count 16) (pow_pos times) in
      moved_checked q 4 count _ _ x t alphabet sixteen_places (group_yes count (omega arith) (omega arith)) w n y (subst₂ (λ i j. Checked q i j x t n y) r d c)

  -- sixteen of them
  pub square_moves : 16 ≡ count → (rows 16 16 ≡ 16) × (columns 16 16 ≡ 16)
      → (n : ℕ) (y : List ℕ) → Checked q 16 16 x t n y → (n ≡ group_refusal q 4 count x t) × (y ≡ moved_target (rows count 16) (columns count 16) q 4 count x t)
  square_moves e both n y c =
      let r : 16 ≡ rows count 16 = sym both.0 ∙ ap (λ i. rows i 16) e in
      let d : 16 ≡ columns count 16 = sym both.1 ∙ ap (λ i. columns i 16) e in
      moved_checked q 4 count _ _ x t alphabet sixteen_places (group_yes count (omega arith) (omega arith)) (whole count 16) n y (subst₂ (λ i j. Checked q i j x t n y) r d c)

-- words of any length, moved as a rows of b symbols
module _ (q m count a b i j : ℕ) (e : a ≡ i) (d : b ≡ j) (whole : i * j ≡ count * 2 ^ m) (variables : is_variables m ≡ true) (group : is_group count ≡ true) where
  pub any_limit : a * b ≤ 4096
  any_limit = omega (arith, ap₂ (λ k l. k * l) e d, whole, group_limit m count variables group)

  pub any_moves : (x t : List ℕ) → is_alphabet q ≡ true → (n : ℕ) (y : List ℕ) → Checked q a b x t n y → (n ≡ group_refusal q m count x t) × (y ≡ moved_target i j q m count x t)
  any_moves x t alphabet n y c = moved_checked q m count i j x t alphabet variables group whole n y (subst₂ (λ k l. Checked q k l x t n y) e d c)

-- what a way does for a literal k it does for m where k is m
pub moved_at : (q k m count : ℕ) (rows columns : ℕ → ℕ → ℕ) (x t : List ℕ) (n : ℕ) (y : List ℕ) → k ≡ m
    → (n ≡ group_refusal q k count x t) × (y ≡ moved_target (rows count (2 ^ k)) (columns count (2 ^ k)) q k count x t)
    → (n ≡ group_refusal q m count x t) × (y ≡ moved_target (rows count (2 ^ m)) (columns count (2 ^ m)) q m count x t)
moved_at q k m count rows columns x t n y e h =
    subst (λ i. (n ≡ group_refusal q i count x t) × (y ≡ moved_target (rows count (2 ^ i)) (columns count (2 ^ i)) q i count x t)) e h
