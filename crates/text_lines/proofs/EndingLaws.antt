-- Where a line ends: byte by byte, behind 16 digits and behind a miss. Assumes nothing.
use Prim.Native.Nat.{ℕ, zero, suc, ◌≤◌, ◌<◌}
use mathlib.Core.Path.{◌≡◌, refl, ap, sym, ◌∙◌, subst}
use mathlib.Core.Bool.{Bool, true, false, cond}
use mathlib.Core.List.{List, [], ◌∷◌}
use native.Mathlib.Nat.{not-suc-le-zero, le_of_suc-le-suc}
use native.Mathlib.Omega.{arith}
use borrow.Author.Tests.{eq-eqb, ne_eqb, eqb-true, ltb-true, ltb-false}
use lib.Dec.{eqb, ltb}
use lib.ListN.{length, take}
use lib.Seq.{length-take-le}
use Rattle.std.specs.List.{position_or_len}
use Rattle.std.proofs.Common.{Some, None, unwrap_or}
use Rattle.std.proofs.lemmas.List.Recursion.{is_position_or_len}
use Rattle.code_theory.specs.Sum.{at}
use Rattle.code_theory.proofs.QuestionLaws.{and_true}
use Rattle.text_lines.specs.Line.{is_digit, is_digits, is_slot, is_miss}
use Rattle.text_lines.specs.Internal.{line_length, has_slot, has_miss}
use Rattle.text_lines.proofs.LineLaws.{digit_at, slot_digits, miss_size}

-- none before a newline, else one byte more
pub line_step : (b : ℕ) (bytes : List ℕ) → line_length (b ∷ bytes) ≡ cond (eqb b 10) 0 (suc (line_length bytes))
unfolding line_length
line_step b bytes = refl

-- a line ends within the bytes, or with them
pub line_within : (bytes : List ℕ) → line_length bytes ≤ length bytes
unfolding line_length
line_within [] = omega arith
line_within (b ∷ bytes) = subst (λ n. n ≤ suc (length bytes)) (sym (line_step b bytes)) (by (eqb b 10) (line_within bytes))
  where
    by : (t : Bool) → line_length bytes ≤ length bytes → cond t 0 (suc (line_length bytes)) ≤ suc (length bytes)
    by true h = omega arith
    by false h = omega arith

-- it is the place of the first newline, or the length
pub line_found : (bytes : List ℕ) → let n = position_or_len (λ b. eqb b 10) bytes in unwrap_or (cond (ltb n (length bytes)) (Some n) None) (length bytes) ≡ line_length bytes
unfolding line_length
line_found bytes =
    let n = position_or_len (λ b. eqb b 10) bytes in
    let e : line_length bytes ≡ n = is_position_or_len line_length (λ b. eqb b 10) refl (λ b l. line_step b l ∙ ap (cond (eqb b 10) 0) (omega arith)) bytes in
    by n (ltb n (length bytes)) refl (omega (arith, e, line_within bytes)) ∙ sym e
  where
    by : (n : ℕ) (t : Bool) → ltb n (length bytes) ≡ t → n ≤ length bytes → unwrap_or (cond t (Some n) None) (length bytes) ≡ n
    by n true e h = refl
    by n false e h = omega (arith, h, ltb-false n (length bytes) e)

-- what stands behind it is a newline
pub line_newline : (bytes : List ℕ) → line_length bytes < length bytes → at bytes (line_length bytes) ≡ 10
line_newline [] h = absurd (not-suc-le-zero h)
line_newline (b ∷ bytes) h =
    subst (λ n. n < suc (length bytes) → at (b ∷ bytes) n ≡ 10) (sym (line_step b bytes)) (by (eqb b 10) refl (line_newline bytes)) h
  where
    by : (t : Bool) → eqb b 10 ≡ t → (line_length bytes < length bytes → at bytes (line_length bytes) ≡ 10)
        → cond t 0 (suc (line_length bytes)) < suc (length bytes) → at (b ∷ bytes) (cond t 0 (suc (line_length bytes))) ≡ 10
    by true e more h = eqb-true b 10 e
    by false e more h = more (le_of_suc-le-suc h)

-- digits and a newline behind them are a line
pub digits_line : (n : ℕ) (bytes : List ℕ) → is_digits (take n bytes) ≡ true → n < length bytes → at bytes n ≡ 10 → line_length bytes ≡ n
unfolding is_digits
digits_line n [] d h e = absurd (not-suc-le-zero h)
digits_line zero (b ∷ bytes) d h e = line_step b bytes ∙ ap (λ t. cond t 0 (suc (line_length bytes))) (eq-eqb b 10 e)
digits_line (suc n) (b ∷ bytes) d h e =
    let low = (digit_at (b ∷ take n bytes) d 0 (omega arith)).0 in
    line_step b bytes ∙ ap (λ t. cond t 0 (suc (line_length bytes))) (ne_eqb b 10 (λ f. omega (arith, low, f)))
    ∙ ap suc (digits_line n bytes (and_true (is_digit b) (is_digits (take n bytes)) d).1 (le_of_suc-le-suc h) e)

-- what a yes to has_slot and to has_miss says
pub slot_ends : (bytes : List ℕ) → has_slot bytes ≡ true → (16 < length bytes) × (line_length bytes ≡ 16) × (is_slot (take 16 bytes) ≡ true)
unfolding has_slot
slot_ends bytes e =
    let (a, more) = and_true (ltb 16 (length bytes)) _ e in
    let (b, d) = and_true (eqb (at bytes 16) 10) (is_slot (take 16 bytes)) more in
    let long = ltb-true 16 (length bytes) a in
    (long, digits_line 16 bytes (slot_digits (take 16 bytes) d) long (eqb-true (at bytes 16) 10 b), d)

pub miss_ends : (n : ℕ) (bytes : List ℕ) → n ≡ line_length bytes → has_miss n bytes ≡ true
    → (n < length bytes) × (n ≡ 1) × (line_length bytes ≡ 1) × (is_miss (take n bytes) ≡ true)
unfolding has_miss
miss_ends n bytes l e =
    let (a, d) = and_true (ltb n (length bytes)) (is_miss (take n bytes)) e in
    let long = ltb-true n (length bytes) a in
    let one : n ≡ 1 = sym (length-take-le n bytes (omega arith)) ∙ miss_size (take n bytes) d in
    (long, one, sym l ∙ one, d)
