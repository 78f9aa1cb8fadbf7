-- Symbols put together eight at a time, bit by bit: all are below q exactly where the eight bytes of the result are. And a slice asked
-- about in parts. Assumes nothing.
use Prim.Native.Nat.{ℕ, ◌+◌, ◌*◌, ◌-◌, ◌/◌, ◌%◌, ◌^◌, ◌≤◌, ◌<◌}
use mathlib.Core.Path.{◌≡◌, refl, ap, sym, ◌∙◌, subst, subst₂}
use mathlib.Core.Logic.{inl, inr}
use mathlib.Core.Bool.{Bool, true, false, true≢false}
use mathlib.Core.List.{List, ◌++◌}
use native.Mathlib.Nat.{zero-add, mul_comm}
use Rattle.std.proofs.lemmas.Nat.{mod-mul-add}
use native.Mathlib.Omega.{arith}
use borrow.Author.Count.{below_more}
use lib.Bits.{bit_and, bit_or, and_le_l, and_le_r, or_lt, or_add_and, or_shr, or_mod}
use lib.Dec.{eqb}
use lib.ListN.{length, drop}
use Rattle.std.proofs.lemmas.List.{drop_at, drop-drop, length-append, length-drop, get_or_append_left, get_or-drop}
use lib.Pow.{pow_pos}
use Rattle.code_theory.specs.Sum.{at, tabulate}
use Rattle.code_theory.specs.Question.{is_alphabet}
use Rattle.code_theory.proofs.SumLaws.{tabulate_at}
use Rattle.code_theory.proofs.QuestionLaws.{Alphabet, alphabet}
use Rattle.swar_theory.specs.Internal.{digit}
use Rattle.swar_theory.proofs.DigitLaws.{digit_past}
use Rattle.swar_bytes.specs.Internal.{Holds}
use Rattle.code_questions.specs.Internal.{Tells}
use Rattle.code_questions.proofs.Whole.{tells_join}
use Rattle.swar_questions.proofs.MaskLaws.{mask_tells}

-- the `or` of two numbers is no smaller than either of them
or_left : (a b : ℕ) → a ≤ bit_or a b
or_left a b = omega (arith, or_add_and a b, and_le_r a b)

or_right : (a b : ℕ) → b ≤ bit_or a b
or_right a b = omega (arith, or_add_and a b, and_le_l a b)

-- `or` works digit by digit
digit_or : (b x y l : ℕ) → digit b (bit_or x y) l ≡ bit_or (digit b x l) (digit b y l)
unfolding digit
digit_or b x y l = ap (λ z. z % 2 ^ b) (or_shr x y (b * l)) ∙ or_mod (x / 2 ^ (b * l)) (y / 2 ^ (b * l)) b

-- all has eight bytes; they bound the 8 * n symbols of s from place i on, and are below each power of two that those are below
pub record Gathered (s : List ℕ) (i n all : ℕ) : Type 0 where
  pub fits : all < 2 ^ 64
  pub bound : (j l : ℕ) → j < n → l < 8 → at s (i + 8 * j + l) ≤ digit 8 all l
  pub reached : (e : ℕ) → ((j l : ℕ) → j < n → l < 8 → at s (i + 8 * j + l) < 2 ^ e) → (l : ℕ) → l < 8 → digit 8 all l < 2 ^ e

pub gathered_none : (s : List ℕ) (i : ℕ) → Gathered s i 0 0
gathered_none s i = record {
  fits = omega arith;
  bound = λ j l h k. absurd (omega (arith, h));
  reached = λ e f l k. omega (arith, digit_past 8 0 0 l (omega arith) (omega arith), pow_pos e);
}

-- eight more symbols, which x has in its bytes
pub gathered_next : (s : List ℕ) (i n all x next : ℕ) → Gathered s i n all → x < 2 ^ 64 → ((l : ℕ) → l < 8 → digit 8 x l ≡ at s (i + 8 * n + l)) → next ≡ bit_or all x
    → Gathered s i (n + 1) next
gathered_next s i n all x next g small each e = record {
  fits = subst (λ z. z < 2 ^ 64) (sym e) (or_lt 64 all x g.fits small);
  bound = λ j l h k.
      below_more (λ j. at s (i + 8 * j + l) ≤ digit 8 next l) n
      (λ j b. omega (arith, g.bound j l b k, digits l, or_left (digit 8 all l) (digit 8 x l)))
      (omega (arith, each l k, digits l, or_right (digit 8 all l) (digit 8 x l)))
      j h;
  reached = λ p f l k.
      let a : digit 8 all l < 2 ^ p = g.reached p (λ j b h. f j b (omega (arith, h))) l k in
      let b : digit 8 x l < 2 ^ p = subst (λ z. z < 2 ^ p) (sym (each l k)) (f n l (omega arith) k) in
      subst (λ z. z < 2 ^ p) (sym (digits l)) (or_lt p (digit 8 all l) (digit 8 x l) a b);
}
  where
    digits : (l : ℕ) → digit 8 next l ≡ bit_or (digit 8 all l) (digit 8 x l)
    digits l = ap (λ z. digit 8 z l) e ∙ digit_or 8 all x l

-- the bytes are below q where the symbols are, for each alphabet is a power of two
module _ (q : ℕ) (s : List ℕ) (i n all : ℕ) (g : Gathered s i n all) (symbols : (j l : ℕ) → j < n → l < 8 → at s (i + 8 * j + l) < q) where
  below_power : (e : ℕ) → q ≡ 2 ^ e → (l : ℕ) → l < 8 → digit 8 all l < q
  below_power e h l k = subst (λ z. digit 8 all l < z) (sym h) (g.reached e (λ j d a b. subst (λ z. at s (i + 8 * j + d) < z) h (symbols j d a b)) l k)

  below_alphabet : Alphabet q → (l : ℕ) → l < 8 → digit 8 all l < q
  below_alphabet (inl e) = below_power 1 e
  below_alphabet (inr (inl e)) = below_power 2 e
  below_alphabet (inr (inr e)) = below_power 3 e

-- the mask y leaves all as it is exactly where the 8 * n symbols from place i on are below q
module _ (q n i m all y : ℕ) (s : List ℕ) (a : is_alphabet q ≡ true) (end : m ≡ n) (g : Gathered s i m all) (k : Holds 8 y (λ l. q - 1)) where
  unfoldable bytes : List ℕ
  bytes = tabulate 8 (digit 8 all)

  byte : (l : ℕ) → l < 8 → at bytes (0 + l) ≡ digit 8 all l
  unfolding bytes
  byte l h = ap (at (tabulate 8 (digit 8 all))) (zero-add l) ∙ tabulate_at 8 (digit 8 all) l h

  bytes_tell : Tells (eqb (bit_and all y) all) q 8 bytes 0
  bytes_tell = mask_tells q 8 all y 0 bytes a (omega arith) (record { fits = g.fits; each = λ l h. sym (byte l h) }) k

  pub eights_tell : Tells (eqb (bit_and all y) all) q (8 * n) s i
  eights_tell = record {
    yes = λ e p h.
        let place : i + 8 * (p / 8) + p % 8 ≡ i + p = omega arith in
        let j : p / 8 < m = omega (arith, h, end) in
        let l : p % 8 < 8 = omega arith in
        subst (λ z. at s z < q) place (omega (arith, g.bound (p / 8) (p % 8) j l, byte (p % 8) l, bytes_tell.yes e (p % 8) l));
    all = λ f.
        let symbols : (j l : ℕ) → j < m → l < 8 → at s (i + 8 * j + l) < q = λ j l b d. subst (λ z. at s z < q) (omega arith) (f (8 * j + l) (omega (arith, b, d, end))) in
        bytes_tell.all (λ l h. omega (arith, byte l h, below_alphabet q s i m all g symbols (alphabet q a) l h));
  }

-- the parts of k symbols of s, one after the other: after n parts, rest is what is left, and the next part is x
module _ (k n : ℕ) (s rest x next : List ℕ) (left : rest ≡ drop (k * n) s) (within : k * n ≤ length s) (parts : rest ≡ x ++ next) (size : length x ≡ k) where
  pub part_rest : next ≡ drop (k * (n + 1)) s
  part_rest = sym (drop_at x next k size) ∙ ap (drop k) (sym parts ∙ left) ∙ drop-drop k (k * n) s ∙ ap (λ i. drop i s) (omega arith)

  pub part_within : k * (n + 1) ≤ length s
  part_within = omega (arith, within, size, ap length left, ap length parts, length-append x next, length-drop (k * n) s)

  pub part_at : (l : ℕ) → l < k → at x l ≡ at s (k * n + l)
  part_at l h = sym (get_or_append_left x next 0 l (omega (arith, h, size))) ∙ ap (λ y. at y l) (sym parts ∙ left) ∙ get_or-drop (k * n) s l 0

  -- what is told of the part, of these places of s
  pub part_tells : (r : Bool) (q : ℕ) → Tells r q (length x) x 0 → Tells r q k s (k * n)
  part_tells r q t = record {
    yes = λ e l h. subst (λ i. i < q) (place l h) (t.yes e l (omega (arith, h, size)));
    all = λ f. t.all (λ l h. subst (λ i. i < q) (sym (place l (omega (arith, h, size)))) (f l (omega (arith, h, size))));
  }
    where
      place : (l : ℕ) → l < k → at x (0 + l) ≡ at s (k * n + l)
      place l h = ap (at x) (zero-add l) ∙ part_at l h

-- what is told of a slice, and read from it, is so of one that is the same
pub tells_same : (r : Bool) (q : ℕ) (x y : List ℕ) → Tells r q (length y) y 0 → y ≡ x → Tells r q (length x) x 0
tells_same r q x y t e = subst (λ z. Tells r q (length z) z 0) e t

pub bytes_same : (v : ℕ) (x y : List ℕ) → ((i : ℕ) → i < 8 → digit 8 v i ≡ at y (0 + i)) → y ≡ x → (i : ℕ) → i < 8 → digit 8 v i ≡ at x (0 + i)
bytes_same v x y f e = subst (λ z. (i : ℕ) → i < 8 → digit 8 v i ≡ at z (0 + i)) e f

-- where no part is left, all symbols are in one
pub parts_end : (k n : ℕ) (s rest : List ℕ) → rest ≡ drop (k * n) s → k * n ≤ length s → length rest < k → length s % k ≡ 0 → k * n ≡ length s
parts_end k n s rest left within few whole =
    let r : ℕ = length s - k * n in
    let small : r < k = omega (arith, few, ap length left, length-drop (k * n) s) in
    let e : n * k + r ≡ length s = omega (arith, within, mul_comm n k) in
    omega (arith, within, sym (mod-mul-add n k r small) ∙ ap (λ i. i % k) e ∙ whole)

-- parts asked about one after the other: none yet; one more, all below q; and one with a symbol that is not
pub parts_none : (q : ℕ) (s : List ℕ) → Tells true q 0 s 0
parts_none q s = record { yes = λ e l h. absurd (omega (arith, h)); all = λ f. refl }

pub parts_next : (q k n : ℕ) (s : List ℕ) (r : Bool) → r ≡ true → Tells true q (k * n) s 0 → Tells r q k s (k * n) → Tells true q (k * (n + 1)) s 0
parts_next q k n s r e before part =
    subst (λ i. Tells true q i s 0) (omega arith)
    (tells_join true true q (k * n) k s 0 before (subst₂ (λ b i. Tells b q k s i) e (sym (zero-add (k * n))) part))

pub parts_no : (q k n : ℕ) (s : List ℕ) (r : Bool) → k * (n + 1) ≤ length s → r ≡ false → Tells r q k s (k * n) → Tells false q (length s) s 0
parts_no q k n s r h e part = record {
  yes = λ z. absurd (true≢false (sym z));
  all = λ f. sym e ∙ part.all (λ l j. subst (λ i. at s i < q) (zero-add (k * n + l)) (f (k * n + l) (omega (arith, h, j))));
}
