-- Sixteen symbols stand in the lanes of a number. Assumes nothing.
use Prim.Native.Nat.{ℕ, zero, suc, ◌+◌, ◌*◌, ◌/◌, ◌%◌, ◌^◌, ◌≤◌, ◌<◌}
use mathlib.Core.Path.{◌≡◌, refl, ap, ap₂, ◌∙◌}
use mathlib.Core.List.{List}
use native.Mathlib.Omega.{arith}
use native.Mathlib.Nat.{mod-eq_of_lt, mul_comm}
use lib.ListN.{length}
use borrow.Author.Tests.{eqb-true}
use lib.Dec.{eqb}
use Rattle.code_theory.specs.Sum.{at, every}
use Rattle.code_theory.specs.Internal.{WellFormed}
use Rattle.code_theory.proofs.EveryLaws.{every_at}
use Rattle.code_theory.proofs.WordLaws.{bounds}
use Rattle.swar_theory.specs.Internal.{digit}
use Rattle.swar_theory.proofs.DigitLaws.{digit_add, sub_le, digit_times, times_lt, digit_even, digit_odd}
use Rattle.swar_lanes.specs.Internal.{offset, Low, Held}

-- every symbol of a received word fits a lane
pub word_low : (q m : ℕ) (w : List ℕ) → WellFormed q m w → Low w
word_low q m w r i l = omega (arith, r.symbols.below i (omega (arith, r.symbols.size, l)), bounds q r.alphabet)

-- where the bytes of a are symbols of w, at whatever places, they fit a lane
pub low_bytes : (w : List ℕ) (place : ℕ → ℕ) (a : ℕ) → ((l : ℕ) → l < 8 → digit 8 a l ≡ at w (place l)) → Low w
    → ((l : ℕ) → l < 8 → place l < length w) → (l : ℕ) → l < 8 → digit 8 a l < 16
low_bytes w place a e low fits l h = omega (arith, e l h, low (place l) (fits l h))

fifteen_bytes : (l : ℕ) → l < 8 → digit 8 0x0f0f_0f0f_0f0f_0f0f l ≡ 15
unfolding every digit
fifteen_bytes l h = eqb-true _ _ (every_at 8 (λ l. eqb (digit 8 0x0f0f_0f0f_0f0f_0f0f l) 15) refl l h)

-- a number whose bytes fit a lane has no byte above 15
pub low_le : (a : ℕ) → a < 18446744073709551616 → ((l : ℕ) → l < 8 → digit 8 a l < 16) → a ≤ 0x0f0f_0f0f_0f0f_0f0f
low_le a ha la = sub_le 8 8 0x0f0f_0f0f_0f0f_0f0f a (omega arith) ha (λ l h. omega (arith, fifteen_bytes l h, la l h))

module _ (a b : ℕ) (ha : a < 18446744073709551616) (hb : b < 18446744073709551616)
    (la : (l : ℕ) → l < 8 → digit 8 a l < 16) (lb : (l : ℕ) → l < 8 → digit 8 b l < 16) where
  grown : (l : ℕ) → l < 8 → 16 * digit 8 b l < 2 ^ 8
  grown l h = omega (arith, lb l h)

  -- the second eight bytes, shifted by one lane, lose no bit
  shifted : (b * 2 ^ 4) % 18446744073709551616 ≡ 16 * b
  shifted = ap (λ z. z % 18446744073709551616) (mul_comm b 16) ∙ mod-eq_of_lt (times_lt 8 8 16 b hb grown)

  bytes : (l : ℕ) → l < 8 → digit 8 a l + digit 8 (16 * b) l < 2 ^ 8
  bytes l h = omega (arith, la l h, lb l h, digit_times 8 8 16 b hb grown l h)

  module _ (w : List ℕ) (i : ℕ) (first : (l : ℕ) → l < 8 → digit 8 a l ≡ at w (i + l)) (second : (l : ℕ) → l < 8 → digit 8 b l ≡ at w (i + 8 + l)) where
    byte : (l : ℕ) → l < 8 → digit 8 (a + 16 * b) l ≡ at w (i + l) + 16 * at w (i + 8 + l)
    byte l h =
        digit_add 8 8 a (16 * b) ha (times_lt 8 8 16 b hb grown) bytes l h
        ∙ ap₂ (λ x y. x + y) (first l h) (digit_times 8 8 16 b hb grown l h ∙ ap (λ z. 16 * z) (second l h))

    -- THE LANES of the sum are the sixteen symbols
    pub sixteen_held : Held w i (a + (b * 2 ^ 4) % 18446744073709551616)
    unfolding offset
    sixteen_held t h = rw shifted (go (t / 2) (t % 2) refl refl)
      where
        go : (l p : ℕ) → t / 2 ≡ l → t % 2 ≡ p → digit 4 (a + 16 * b) t ≡ at w (i + (8 * (t % 2) + t / 2))
        go l zero e f =
            let g : t ≡ 2 * l = omega arith in
            let k : l < 8 = omega arith in
            let place : i + l ≡ i + (8 * (t % 2) + t / 2) = omega arith in
            let value : (at w (i + l) + 16 * at w (i + 8 + l)) % 16 ≡ at w (i + l) = omega (arith, first l k, la l k) in
            ap (digit 4 (a + 16 * b)) g ∙ digit_even 4 (a + 16 * b) l ∙ ap (λ z. z % 16) (byte l k) ∙ value ∙ ap (at w) place
        go l (suc zero) e f =
            let g : t ≡ 2 * l + 1 = omega arith in
            let k : l < 8 = omega arith in
            let place : i + 8 + l ≡ i + (8 * (t % 2) + t / 2) = omega arith in
            let value : (at w (i + l) + 16 * at w (i + 8 + l)) / 16 ≡ at w (i + 8 + l) = omega (arith, first l k, la l k) in
            ap (digit 4 (a + 16 * b)) g ∙ digit_odd 4 (a + 16 * b) l ∙ ap (λ z. z / 16) (byte l k) ∙ value ∙ ap (at w) place
        go l (suc (suc p)) e f = absurd (omega arith)
