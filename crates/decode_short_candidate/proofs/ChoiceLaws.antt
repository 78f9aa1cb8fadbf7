-- The steps to a candidate: the word minus its coefficients, and the symbol that most lanes have. Assumes nothing.
use Prim.Native.Nat.{ℕ, ◌+◌, ◌-◌, ◌%◌, ◌^◌, ◌≤◌, ◌<◌}
use mathlib.Core.Path.{◌≡◌, refl, ap, sym, ◌∙◌}
use mathlib.Core.Logic.{inl, inr}
use mathlib.Core.Bool.{true}
use mathlib.Core.List.{List}
use native.Mathlib.Omega.{arith}
use native.Mathlib.Decide.{ℕ_discrete}
use native.Mathlib.Nat.{mod-lt, mod-eq_of_lt, div-one}
use borrow.Author.Tests.{ltb-true}
use lib.Dec.{ltb}
use lib.Bits.{bit_and}
use Rattle.code_theory.specs.Sum.{every}
use Rattle.code_theory.specs.Modular.{sub_mod, same}
use Rattle.code_theory.specs.Question.{is_alphabet}
use Rattle.code_theory.proofs.QuestionLaws.{Alphabet, alphabet, alphabet_bounds, alphabet_positive, mask_mod}
use Rattle.code_theory.proofs.EveryLaws.{every_at}
use Rattle.code_theory.proofs.ModularLaws.{same_ne}
use Rattle.swar_theory.specs.Internal.{digit}
use Rattle.swar_lanes.specs.Internal.{offset, Lanes, lane_bit}
use Rattle.decode_short_errors.specs.Internal.{plain}
use Rattle.swar_majority.specs.Internal.{Most}
use Rattle.decode_short_candidate.specs.Internal.{Rest}

-- the lanes of the word minus those of the code
pub rest_is : (q x : ℕ) (d : List ℕ) (code r : ℕ) → Lanes code (λ t. plain q d (offset t))
    → Lanes r (λ t. sub_mod q (digit 4 x t) (digit 4 code t)) → Rest q x d r
rest_is q x d code r e f t h = f t h ∙ ap (sub_mod q (digit 4 x t)) (e t h)

-- an `and` with q - 1 leaves the remainder by q
pub symbol_is : (q x : ℕ) → is_alphabet q ≡ true → bit_and x (q - 1) ≡ x % q
symbol_is q x al = mask_mod q x (alphabet q al)

-- THE SYMBOL that most lanes have is the remainder of the value that most have
pub most_mod : (q n : ℕ) (f : ℕ → ℕ) (x r : ℕ) → is_alphabet q ≡ true → Most 8 n f x → r ≡ x % q → Most q n f r
most_mod q n f x r al most e = record {
  fits = omega (arith, e, mod-lt x {m = q} (alphabet_positive q al));
  is = λ v l k. e ∙ ap (λ z. z % q) (most.is v (omega (arith, l, alphabet_bounds q (alphabet q al))) k) ∙ mod-eq_of_lt l;
}

low_lane : (q x : ℕ) → Alphabet q → x % q ≡ digit 4 x 0 % q
unfolding digit
low_lane q x h = each h ∙ ap (λ z. z % 16 % q) (sym (div-one x))
  where
    each : Alphabet q → x % q ≡ x % 16 % q
    each (inl e) = rw e (omega arith)
    each (inr (inl e)) = rw e (omega arith)
    each (inr (inr e)) = rw e (omega arith)

same_is : (a b : ℕ) → 1 ≤ same a b → a ≡ b
same_is a b l = go (ℕ_discrete a b)
  where
    go : Dec (a ≡ b) → a ≡ b
    go (yes e) = e
    go (no d) = absurd (omega (arith, same_ne a b d))

-- the symbol of lane 0 alone
pub most_one : (q x r : ℕ) → is_alphabet q ≡ true → r ≡ x % q → Most q 1 (same (digit 4 x 0)) r
most_one q x r al e = record {
  fits = omega (arith, e, mod-lt x {m = q} (alphabet_positive q al));
  is = λ v l k. e ∙ low_lane q x (alphabet q al) ∙ ap (λ z. z % q) (same_is (digit 4 x 0) v k) ∙ mod-eq_of_lt l;
}

-- whatever counts the same lanes finds the same symbol
pub most_by : (q n : ℕ) (f g : ℕ → ℕ) (r : ℕ) → f ≡ g → Most q n f r → Most q n g r
most_by q n f g r e h = rw e at h

-- the counts of equal lanes are equal
pub lanes_same : {A : Type 0} (f : ℕ → ℕ → ℕ → A) {i j k a b c : ℕ} → i ≡ a → j ≡ b → k ≡ c → f i j k ≡ f a b c
lanes_same f {j = j} {k = k} {a = a} {b = b} e g h = ap (λ x. f x j k) e ∙ ap (λ x. f a x k) g ∙ ap (f a b) h

-- three different bits of a place are three different bits of a lane, so their sum is a lane
three_bits : every 4 (λ k. every k (λ j. every j (λ i. ltb (2 ^ lane_bit i + 2 ^ lane_bit j + 2 ^ lane_bit k) 16))) ≡ true
unfolding every lane_bit
three_bits = refl

pub lanes_fit : (i j k a b c : ℕ) → i < j → j < k → k < 4 → a ≡ 2 ^ lane_bit i → b ≡ 2 ^ lane_bit j → c ≡ 2 ^ lane_bit k → a + b + c < 16
lanes_fit i j k a b c hi hj hk e f g =
    omega (
      arith,
      e,
      f,
      g,
      ltb-true (2 ^ lane_bit i + 2 ^ lane_bit j + 2 ^ lane_bit k) 16
          (every_at j (λ i. ltb (2 ^ lane_bit i + 2 ^ lane_bit j + 2 ^ lane_bit k) 16)
          (every_at k (λ j. every j (λ i. ltb (2 ^ lane_bit i + 2 ^ lane_bit j + 2 ^ lane_bit k) 16))
          (every_at 4 (λ k. every k (λ j. every j (λ i. ltb (2 ^ lane_bit i + 2 ^ lane_bit j + 2 ^ lane_bit k) 16))) three_bits k hk) j hj) i hi),
    )
