-- The first places of a word in the bytes of one number. Assumes nothing.
use Prim.Native.Nat.{ℕ, suc, ◌+◌, ◌*◌, ◌-◌, ◌%◌, ◌^◌, ◌<◌}
use mathlib.Core.Path.{◌≡◌, refl, ap, sym, ◌∙◌}
use mathlib.Core.Bool.{true}
use mathlib.Core.List.{List}
use native.Mathlib.Omega.{arith}
use native.Mathlib.Nat.{add_comm}
use borrow.Author.Count.{below_none, below_more}
use lib.Bits.{bit_and}
use Rattle.code_theory.specs.Sum.{sum, at}
use Rattle.code_theory.specs.Index.{bit}
use Rattle.code_theory.specs.Code.{linear, symbol_at}
use Rattle.code_theory.specs.Question.{is_alphabet}
use Rattle.code_theory.proofs.CodeLaws.{linear_low, linear_high}
use Rattle.code_theory.proofs.QuestionLaws.{alphabet, alphabet_bounds, mask_mod}
use Rattle.swar_theory.specs.Internal.{digit, number}
use Rattle.swar_theory.proofs.DigitLaws.{digit_and}
use Rattle.swar_bytes.specs.Internal.{Holds, Put}
use Rattle.swar_bytes.proofs.Parts.{hold_number, hold_plus, hold_ext, hold_shifted, same_four}
use Rattle.encode_codeword.specs.Internal.{Small, Written, unreduced}

-- an `and` with q - 1 in each digit leaves each digit modulo q
pub reduced_each : (q x y : ℕ) → is_alphabet q ≡ true → Holds 8 y (λ l. q - 1) → (l : ℕ) → l < 8 → digit 8 (bit_and x y) l ≡ digit 8 x l % q
reduced_each q x y a h l k = digit_and 8 x y l ∙ ap (bit_and (digit 8 x l)) (h.each l k) ∙ mask_mod q _ (alphabet q a)

-- a statement that holds at 0, 1, 2 and 3 holds below 4
all_four : (P : ℕ → Type 0) → P 0 → P 1 → P 2 → P 3 → (l : ℕ) → l < 4 → P l
all_four P a b c d = below_more P 3 (below_more P 2 (below_more P 1 (below_more P 0 (below_none _) a) b) c) d

-- the first four places depend only on the first three symbols
module _ (s : ℕ → ℕ) (h : (k : ℕ) → k < 3 → s k < 8) where
  four_bound : (l : ℕ) → l < 4 → unreduced 2 s l < 32
  unfolding unreduced linear sum bit
  four_bound = all_four (λ l. unreduced 2 s l < 32) (omega (arith, h 0 (omega arith))) (omega (arith, h 0 (omega arith), h 1 (omega arith)))
      (omega (arith, h 0 (omega arith), h 2 (omega arith))) (omega (arith, h 0 (omega arith), h 1 (omega arith), h 2 (omega arith)))

  four_holds : Holds 4 (s 0 * 16843009 + s 1 * 16777472 + s 2 * 16842752) (unreduced 2 s)
  unfolding number unreduced linear sum bit
  four_holds = hold_number 4 _ (unreduced 2 s) (omega arith) (λ l k. omega (arith, four_bound l k))

-- the first four places as `first_four` computes them from the symbols that it read
pub four_code : (s : List ℕ) (x y z : ℕ) → Small 3 s → x ≡ at s 0 → y ≡ at s 1 → z ≡ at s 2 → Holds 4 (x * 16843009 + y * 16777472 + z * 16842752) (unreduced 2 (at s))
four_code s x y z h e f g = rw (e, f, g) (four_holds (at s) h.below)

-- where x has symbols in its digits, and y has a in each, x + y has each symbol plus a
pub plus_holds : (q a x y : ℕ) → x < 18446744073709551616 → is_alphabet q ≡ true → a < q → ((l : ℕ) → l < 8 → digit 8 x l < q) → Holds 8 y (λ l. a)
    → Holds 8 (x + y) (λ l. digit 8 x l + a)
plus_holds q a x y h e b each s =
    hold_plus 8 x y (digit 8 x) (λ l. a) (record { fits = h; each = λ l k. refl }) s (λ l k. omega (arith, b, each l k, alphabet_bounds q (alphabet q e)))

-- the first eight places are the first four, and the same four plus the next coefficient
module _ (s : ℕ → ℕ) (p : ℕ) (h : (k : ℕ) → k < 4 → s k < 8) (four : Holds 4 p (unreduced 2 s)) where
  upper_four : Holds 4 (p + s 3 * 16843009) (λ l. unreduced 2 s l + s 3)
  upper_four =
      hold_plus 4 p _ (unreduced 2 s) (λ l. s 3) four (same_four (s 3) (omega (arith, h 3 (omega arith))))
      (λ l k. omega (arith, four_bound s (λ i j. h i (omega arith)) l k, h 3 (omega arith)))

  eight_holds : Holds 8 (p + (p + s 3 * 16843009) * 4294967296 % 18446744073709551616) (unreduced 3 s)
  unfolding unreduced
  eight_holds =
      hold_shifted 4 4 p (p + s 3 * 16843009) (unreduced 3 s)
      (hold_ext 4 p _ _ (λ l k. ap (λ x. s 0 + x) (sym (linear_low 2 3 (λ k. s (suc k)) l (omega arith) k))) four)
      (hold_ext 4 _ _ _ (λ l k. high l k) upper_four)
      (omega arith)
    where
      high : (l : ℕ) → l < 4 → s 0 + linear 2 (λ k. s (suc k)) l + s 3 ≡ s 0 + linear 3 (λ k. s (suc k)) (4 + l)
      high l k = omega (arith, linear_high 2 (λ k. s (suc k)) l k, ap (linear 3 (λ k. s (suc k))) (add_comm 4 l))

pub eight_code : (s : List ℕ) (p x : ℕ) → Small 4 s → Holds 4 p (unreduced 2 (at s)) → x ≡ at s 3
    → Holds 8 (p + (p + x * 16843009) * 4294967296 % 18446744073709551616) (unreduced 3 (at s))
eight_code s p x h four e = rw e (eight_holds (at s) p h.below four)

-- digits that are written modulo q are the word where, unreduced, they are its places
pub written_put : (q m n r x : ℕ) (s w v : List ℕ) → 2 ^ m ≡ n → ((l : ℕ) → l < n → digit 8 r l ≡ digit 8 x l % q) → Holds n x (unreduced m (at s))
    → Put n r 0 w v → Written q m s w v
unfolding symbol_at unreduced
written_put q m n r x s w v h e b p = record {
  size = p.size;
  coded = record { each = λ i l. place i (omega (arith, h)) };
  rest = λ i l. p.above i (omega (arith, h));
}
  where
    place : (i : ℕ) → i < n → at v i ≡ unreduced m (at s) i % q
    place i l =
        let z : i ≡ 0 + i = omega arith in
        ap (at v) z ∙ p.new i l ∙ e i l ∙ ap (λ z. z % q) (b.each i l)
