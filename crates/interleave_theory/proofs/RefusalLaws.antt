-- The first question about a group that is answered no, as the code asks them. Assumes nothing.
use Prim.Native.Nat.{ℕ, ◌*◌, ◌^◌}
use mathlib.Core.Path.{◌≡◌, sym, ◌∙◌}
use mathlib.Core.Bool.{true, false}
use mathlib.Core.List.{List}
use borrow.Author.Tests.{eq-eqb, ne_eqb}
use lib.ListN.{length}
use Rattle.code_theory.specs.Question.{is_alphabet, is_variables, all_below}
use Rattle.code_theory.proofs.QuestionLaws.{ask_on, ask_no}
use Rattle.interleave_theory.specs.Group.{is_group, is_group_size, group_refusal}
use Rattle.interleave_theory.specs.Internal.{slices_refusal}

-- the slices: x is the source, t the target
module _ (q size : ℕ) (x t : List ℕ) where
  pub refused_source : (length x ≡ size → ⊥) → 7 ≡ slices_refusal q size x t
  unfolding slices_refusal
  refused_source n = sym (ask_no _ _ _ (ne_eqb _ _ n))

  module _ (s : length x ≡ size) where
    pub refused_target : (length t ≡ size → ⊥) → 7 ≡ slices_refusal q size x t
    unfolding slices_refusal
    refused_target n = sym (ask_on _ _ _ (eq-eqb _ _ s) ∙ ask_no _ _ _ (ne_eqb _ _ n))

    module _ (d : length t ≡ size) where
      pub refused_below : all_below q x ≡ false → 8 ≡ slices_refusal q size x t
      unfolding slices_refusal
      refused_below n = sym (ask_on _ _ _ (eq-eqb _ _ s) ∙ ask_on _ _ _ (eq-eqb _ _ d) ∙ ask_no _ _ _ n)

      pub refused_none : all_below q x ≡ true → 0 ≡ slices_refusal q size x t
      unfolding slices_refusal
      refused_none y = sym (ask_on _ _ _ (eq-eqb _ _ s) ∙ ask_on _ _ _ (eq-eqb _ _ d) ∙ ask_on _ _ _ y)

-- the group
module _ (q m count : ℕ) (x t : List ℕ) where
  pub refused_1 : is_alphabet q ≡ false → 1 ≡ group_refusal q m count x t
  unfolding group_refusal
  refused_1 n = sym (ask_no _ _ _ n)

  module _ (a : is_alphabet q ≡ true) where
    pub refused_2 : is_variables m ≡ false → 2 ≡ group_refusal q m count x t
    unfolding group_refusal
    refused_2 n = sym (ask_on _ _ _ a ∙ ask_no _ _ _ n)

    module _ (v : is_variables m ≡ true) where
      pub refused_14 : is_group count ≡ false → 14 ≡ group_refusal q m count x t
      unfolding group_refusal
      refused_14 n = sym (ask_on _ _ _ a ∙ ask_on _ _ _ v ∙ ask_no _ _ _ n)

      module _ (g : is_group count ≡ true) where
        -- where q, m and W pass, the slices decide
        pub slices_asked : slices_refusal q (count * 2 ^ m) x t ≡ group_refusal q m count x t
        unfolding group_refusal is_group_size slices_refusal
        slices_asked = sym (ask_on _ _ _ a ∙ ask_on _ _ _ v ∙ ask_on _ _ _ g)
