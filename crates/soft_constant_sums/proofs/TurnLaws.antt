-- The quarter turns as a word, and the samples turned back by them. Assumes nothing.
use Prim.Native.Nat.{ℕ, zero, suc, ◌+◌, ◌%◌, ◌^◌, ◌≤◌, ◌<◌}
use mathlib.Core.Path.{◌≡◌, refl, ap, ap₂, sym, ◌∙◌}
use mathlib.Core.Bool.{true}
use mathlib.Core.List.{List, [], ◌∷◌}
use native.Mathlib.Nat.{mod-lt, zero-add, le_of_suc-le-suc}
use native.Mathlib.Omega.{arith}
use lib.Bits.{bit_and, and_mask}
use lib.ListN.{length, get_or, take, length-take}
use lib.Seq.{get_or-take}
use lib.Pow.{pow_mono}
use lib.Ieee.{Float, binary32, of_bits, neg, nan}
use Rattle.code_theory.specs.Sum.{at, sum}
use Rattle.code_theory.specs.Index.{bit}
use Rattle.code_theory.specs.Code.{linear, symbol_at}
use Rattle.code_theory.specs.Question.{is_alphabet}
use Rattle.encode_codeword.specs.Internal.{Fits, Written}
use Rattle.soft_theory.specs.Numbers.{f32}
use Rattle.soft_theory.specs.Complex.{Complex, sample, turn_back, plus}
use Rattle.soft_theory.specs.Soft.{constant_sums}
use Rattle.soft_theory.proofs.SumsLaws.{sums_none, sums_next, back_to, back_all}
use Rattle.soft_vote_sums.proofs.Steps.{zero_bits}
use Rattle.soft_vote_sums.specs.Internal.{complex, Sized}
use Rattle.soft_constant_sums.specs.Internal.{Coefficients, coefficients_in, Turns}

-- ---- the turns are a word
pub turns_fit : (q m : ℕ) (found t : List ℕ) → is_alphabet q ≡ true → 4 ≤ q → 2 ≤ m → m ≤ 8 → Coefficients m found → length t ≡ 256 → Fits q m found t
turns_fit q m found t a b l h c e = record {
  alphabet = a;
  low = l;
  high = h;
  size = omega (arith, c.size);
  below = below;
  room = omega (arith, e, pow_mono {i = m} {j = 8} h);
}
  where
    below : (k : ℕ) → k < suc m → at found k < q
    below zero i = omega (arith, c.zeroth)
    below (suc k) i = omega (arith, c.below k (le_of_suc-le-suc i))

pub turns_written : (m : ℕ) (found t u : List ℕ) → Coefficients m found → length t ≡ 256 → Written 4 m found t u → Turns m found u
unfolding symbol_at coefficients_in
turns_written m found t u c e d = record {
  size = d.size ∙ e;
  each = λ i l. d.coded.each i l ∙ ap (λ x. (x + linear m (λ k. at found (suc k)) i) % 4) c.zeroth ∙ ap (λ x. x % 4) (zero-add _);
}

pub turns_below : (k : ℕ) (found t : List ℕ) → Turns k found t → (i : ℕ) → i < 2 ^ k → at t i < 4
turns_below k found t f i l = rw (f.each i l) (mod-lt _ (omega arith))

-- ---- the samples turned back
-- the four signed parts in a table
pub turn_table : (t i : ℕ) (x y : Float) → i ≡ t → t < 4
    → complex (get_or (x ∷ y ∷ neg x ∷ neg y ∷ []) i nan) (get_or (x ∷ y ∷ neg x ∷ neg y ∷ []) (bit_and (i + 1) 3) nan) ≡ turn_back f32 t (complex x y)
unfolding turn_back
turn_table t i x y e = rw e (go t)
  where
    go : (t : ℕ) → t < 4 → complex (get_or (x ∷ y ∷ neg x ∷ neg y ∷ []) t nan) (get_or (x ∷ y ∷ neg x ∷ neg y ∷ []) (bit_and (t + 1) 3) nan) ≡ turn_back f32 t (complex x y)
    go zero h = refl
    go (suc zero) h = refl
    go (suc (suc zero)) h = refl
    go (suc (suc (suc zero))) h = refl
    go (suc (suc (suc (suc t)))) h = absurd (omega arith)

-- the sums plus a sample that is turned back
pub back_plus : (t : ℕ) (s r z y x : Complex Float) → r ≡ plus f32 s z → z ≡ turn_back f32 t y → y ≡ x → r ≡ plus f32 s (turn_back f32 t x)
back_plus t s r z y x R Z Y = R ∙ ap (plus f32 s) (Z ∙ ap (turn_back f32 t) Y)

module _ (m : ℕ) (c : ℕ → ℕ) (re im : List Float) where
  pub back_none : complex (of_bits binary32 0) (of_bits binary32 0) ≡ back_to f32 m c (sample f32 re im) 0
  unfolding back_to
  back_none = ap₂ complex zero_bits zero_bits ∙ sym (sums_none f32 (λ i. 0) _)

  pub back_next : (i t : ℕ) (s r z : Complex Float) → s ≡ back_to f32 m c (sample f32 re im) i → t ≡ linear m c i % 4 → z ≡ sample f32 re im i
      → r ≡ plus f32 s (turn_back f32 t z) → r ≡ back_to f32 m c (sample f32 re im) (i + 1)
  unfolding back_to
  back_next i t s r z e f Z R =
      R
      ∙ ap₂ (plus f32) e (ap₂ (turn_back f32) f Z)
      ∙ sym (sums_next f32 i (λ i. turn_back f32 (linear m c i % 4) (sample f32 re im i)))

  pub back_end : (i : ℕ) (s : Complex Float) → s ≡ back_to f32 m c (sample f32 re im) i → i ≡ 2 ^ m → s ≡ constant_sums f32 m c (sample f32 re im)
  back_end i s e f = e ∙ ap (back_to f32 m c (sample f32 re im)) f ∙ back_all f32 m c (sample f32 re im)

-- the turns as the code reads them: those of the samples, from the front
pub turn_read : (m : ℕ) (found turns : List ℕ) (re im : List Float) → Sized m re im → Turns m found turns → (i : ℕ) → i < length (take (length re) turns)
    → (i < length re) × (get_or (take (length re) turns) i 0 < 4) × (get_or (take (length re) turns) i 0 ≡ linear m (coefficients_in found) i % 4)
turn_read m found turns re im s t i h =
    let k : i < length re = omega (arith, h, length-take (length re) turns) in
    let l : i < 2 ^ m = omega (arith, k, s.reals) in
    let e = get_or-take (length re) turns i 0 k in
    (k, rw e (turns_below m found turns t i l), e ∙ t.each i l)

-- ---- four samples
pub masked_below : (x : ℕ) → bit_and x 3 < 4
masked_below x = omega (arith, and_mask x 2)

module _ (found : List ℕ) (c : Coefficients 2 found) where
  pub both_below : (at found 1 < 4) × (at found 2 < 4)
  both_below = (c.below 0 (omega arith), c.below 1 (omega arith))

  -- their quarter turns: none, a_0, a_1 and a_0 + a_1
  four_turns : (0 ≡ linear 2 (coefficients_in found) 0 % 4) × (at found 1 ≡ linear 2 (coefficients_in found) 1 % 4) × (at found 2 ≡ linear 2 (coefficients_in found) 2 % 4)
      × (bit_and (at found 1 + at found 2) 3 ≡ linear 2 (coefficients_in found) 3 % 4)
  unfolding linear sum bit coefficients_in
  four_turns = (omega arith, omega (arith, both_below.0), omega (arith, both_below.1), omega (arith, and_mask (at found 1 + at found 2) 2))

  -- the sums of four samples, one after the other
  pub four_back : (re im : List Float) (p r s t : Complex Float)
      → p ≡ plus f32 (complex (of_bits binary32 0) (of_bits binary32 0)) (turn_back f32 0 (sample f32 re im 0))
      → r ≡ plus f32 p (turn_back f32 (at found 1) (sample f32 re im 1))
      → s ≡ plus f32 r (turn_back f32 (at found 2) (sample f32 re im 2))
      → t ≡ plus f32 s (turn_back f32 (bit_and (at found 1 + at found 2) 3) (sample f32 re im 3))
      → t ≡ constant_sums f32 2 (coefficients_in found) (sample f32 re im)
  four_back re im p r s t P R S T =
      back_end 2 (coefficients_in found) re im 4 t
      (next 3 _ s t (next 2 _ r s (next 1 _ p r (next 0 _ _ p (back_none 2 (coefficients_in found) re im) four_turns.0 P) four_turns.1 R) four_turns.2 S) four_turns.3 T)
      refl
    where
      next : (i u : ℕ) (x y : Complex Float) → x ≡ back_to f32 2 (coefficients_in found) (sample f32 re im) i → u ≡ linear 2 (coefficients_in found) i % 4
          → y ≡ plus f32 x (turn_back f32 u (sample f32 re im i)) → y ≡ back_to f32 2 (coefficients_in found) (sample f32 re im) (i + 1)
      next i u x y e f g = back_next 2 (coefficients_in found) re im i u x y _ e f refl g
