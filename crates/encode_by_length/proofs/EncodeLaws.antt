-- The answer of Write and the word that it leaves, by the first question answered no. Assumes nothing.
use Prim.Native.Nat.{ℕ, suc, ◌^◌, ◌≤◌}
use mathlib.Core.Path.{◌≡◌, refl, sym, ◌∙◌}
use mathlib.Core.Logic.{◌≢◌}
use mathlib.Core.Bool.{Bool, true, false}
use mathlib.Core.List.{List}
use native.Mathlib.Omega.{arith}
use lib.ListN.{length}
use Rattle.code_theory.specs.Code.{codeword}
use Rattle.code_theory.specs.Question.{is_alphabet, is_variables, is_message_size, is_word_size, all_below}
use Rattle.code_theory.proofs.QuestionLaws.{ask_yes, ask_on, ask_no, variables_bounds, message_size, word_size, symbols, after_yes, after_no}
use Rattle.encode_codeword.specs.Internal.{Fits}
use Rattle.encode_by_length.specs.Encoder.{encode_refusal, encode_word}

-- the answer is the number of the first question answered no, and then the word is left as it is (left_as_is)
module _ (q m : ℕ) (s w : List ℕ) where
  pub left_as_is : (n : ℕ) → n ≡ encode_refusal q m s w → n ≢ 0 → (n ≡ encode_refusal q m s w) × (w ≡ encode_word q m s w)
  unfolding encode_word
  left_as_is n e d = (e, sym (after_no _ _ _ (λ z. d (e ∙ z))))

  pub alphabet_no : is_alphabet q ≡ false → (1 ≡ encode_refusal q m s w) × (w ≡ encode_word q m s w)
  unfolding encode_refusal
  alphabet_no a = left_as_is 1 (sym (ask_no _ _ _ a)) (λ z. absurd (omega (arith, z)))

  module _ (a : is_alphabet q ≡ true) where
    pub variables_no : (2 ≤ m → m ≤ 8 → ⊥) → (2 ≡ encode_refusal q m s w) × (w ≡ encode_word q m s w)
    unfolding encode_refusal
    variables_no h = left_as_is 2 (sym (ask_on _ _ _ a ∙ ask_no _ _ _ (go (is_variables m) refl))) (λ z. absurd (omega (arith, z)))
      where
        go : (b : Bool) → is_variables m ≡ b → b ≡ false
        go true e = let (low, high) = variables_bounds m e in absurd (h low high)
        go false e = refl

    module _ (b : is_variables m ≡ true) where
      pub size_no : is_message_size m s ≡ false → 5 ≡ encode_refusal q m s w
      unfolding encode_refusal
      size_no c = sym (ask_on _ _ _ a ∙ ask_on _ _ _ b ∙ ask_no _ _ _ c)

      module _ (c : is_message_size m s ≡ true) where
        pub below_no : all_below q s ≡ false → 6 ≡ encode_refusal q m s w
        unfolding encode_refusal
        below_no d = sym (ask_on _ _ _ a ∙ ask_on _ _ _ b ∙ ask_on _ _ _ c ∙ ask_no _ _ _ d)

        module _ (d : all_below q s ≡ true) where
          pub word_no_room : is_word_size m w ≡ false → 7 ≡ encode_refusal q m s w
          unfolding encode_refusal
          word_no_room e = sym (ask_on _ _ _ a ∙ ask_on _ _ _ b ∙ ask_on _ _ _ c ∙ ask_on _ _ _ d ∙ ask_no _ _ _ e)

          pub all_yes : is_word_size m w ≡ true → encode_refusal q m s w ≡ 0
          unfolding encode_refusal
          all_yes e = ask_on _ _ _ a ∙ ask_on _ _ _ b ∙ ask_on _ _ _ c ∙ ask_on _ _ _ d ∙ ask_on _ _ _ e

-- an answer for a literal j is one for m where j is m
pub with_variables : (q m j r : ℕ) (s w v : List ℕ) → j ≡ m → (r ≡ encode_refusal q j s w) × (v ≡ encode_word q j s w) → (r ≡ encode_refusal q m s w) × (v ≡ encode_word q m s w)
with_variables q m j r s w v e d = rw e at d

-- where all questions are answered yes, the word of the message fits its slice and fills it
pub all_fits : (q m : ℕ) (s w : List ℕ) → encode_refusal q m s w ≡ 0 → Fits q m s w × (length w ≡ 2 ^ m)
unfolding encode_refusal
all_fits q m s w e =
    let (a, e1) = ask_yes (is_alphabet q) 0 _ e in
    let (b, e2) = ask_yes (is_variables m) 1 _ e1 in
    let (c, e3) = ask_yes (is_message_size m s) 4 _ e2 in
    let (d, e4) = ask_yes (all_below q s) 5 _ e3 in
    let room = word_size m w (ask_yes (is_word_size m w) 6 _ e4).0 in
    let (low, high) = variables_bounds m b in
    let size = message_size m s c in
    (record { alphabet = a; low = low; high = high; size = omega (arith, size); below = (symbols q (suc m) s size d).below; room = omega (arith, room) }, room)

-- where all questions are answered yes, Write leaves the word of the message
pub word_written : (q m : ℕ) (s w v : List ℕ) → encode_refusal q m s w ≡ 0 → v ≡ codeword q m s → (0 ≡ encode_refusal q m s w) × (v ≡ encode_word q m s w)
unfolding encode_word
word_written q m s w v z e = (sym z, e ∙ sym (after_yes _ _ _ z))
