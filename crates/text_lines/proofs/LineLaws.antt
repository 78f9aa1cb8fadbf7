-- What a line is, test by test; of a line, 17 bytes tell it. Assumes nothing.
use Prim.Native.Nat.{ℕ, zero, suc, ◌+◌, ◌-◌, ◌≤◌, ◌<◌}
use mathlib.Core.Path.{◌≡◌, refl, ap, sym, ◌∙◌}
use mathlib.Core.Bool.{Bool, true, false, ◌&&◌, cond}
use mathlib.Core.List.{List, [], ◌∷◌, ◌++◌, append-nil}
use native.Mathlib.Nat.{not-suc-le-zero, le_of_suc-le-suc, zero-add}
use native.Mathlib.Omega.{arith}
use borrow.Author.Tests.{ne_eqb, leb-true, leb-false, eqb-true}
use lib.Dec.{eqb, leb}
use lib.ListN.{length, take, drop, set, length-map, get_or-map, drop_of_length-le}
use lib.Seq.{take_all, length-take-le}
use Rattle.std.specs.List.{fold}
use Rattle.code_theory.specs.Sum.{at}
use Rattle.code_theory.proofs.QuestionLaws.{and_true}
use Rattle.text_buffer.specs.Text.{put}
use Rattle.text_buffer.proofs.PutLaws.{put_byte}
use Rattle.text_lines.specs.Line.{slot, miss, bad, is_digit, is_digits, is_slot, is_miss, word_of, read_line}

-- a fold that asks each byte
pub digits_fold : (all : Bool) (line : List ℕ) → fold (λ t b. t && is_digit b) all line ≡ all && is_digits line
unfolding is_digits
digits_fold true [] = refl
digits_fold false [] = refl
digits_fold true (b ∷ line) = digits_fold (is_digit b) line
digits_fold false (b ∷ line) = digits_fold false line

-- each byte of a line of digits is one
pub digit_at : (line : List ℕ) → is_digits line ≡ true → (i : ℕ) → i < length line → (48 ≤ at line i) × (at line i ≤ 51)
unfolding is_digits is_digit
digit_at [] e i h = absurd (not-suc-le-zero h)
digit_at (b ∷ line) e zero h =
    let (x, y) = and_true (leb 48 b) (leb b 51) (and_true (is_digit b) (is_digits line) e).0 in
    (leb-true 48 b x, leb-true b 51 y)
digit_at (b ∷ line) e (suc i) h = digit_at line (and_true (is_digit b) (is_digits line) e).1 i (le_of_suc-le-suc h)

-- what a yes to is_slot says
pub slot_size : (line : List ℕ) → is_slot line ≡ true → length line ≡ 16
unfolding is_slot
slot_size line e = eqb-true (length line) 16 (and_true (eqb (length line) 16) (is_digits line) e).0

-- so its first sixteen bytes are all of it
pub slot_whole : (line : List ℕ) → is_slot line ≡ true → take 16 line ≡ line
slot_whole line e = take_all 16 line (omega (arith, slot_size line e))

pub slot_taken : (line : List ℕ) → is_slot line ≡ true → length (take 16 line) ≡ length line
slot_taken line e = ap length (slot_whole line e)

pub slot_digits : (line : List ℕ) → is_slot line ≡ true → is_digits line ≡ true
unfolding is_slot
slot_digits line e = (and_true (eqb (length line) 16) (is_digits line) e).1

-- what a yes to is_miss says
pub miss_size : (line : List ℕ) → is_miss line ≡ true → length line ≡ 1
unfolding is_miss
miss_size line e = eqb-true (length line) 1 (and_true (eqb (length line) 1) (eqb (at line 0) 45) e).0

-- the symbol of each digit
pub word_at : (line : List ℕ) (i : ℕ) → at (word_of line) i ≡ at line i - 48
unfolding word_of
word_at line i = get_or-map (λ b. b - 48) line i 0

pub word_length : (line : List ℕ) → length (word_of line) ≡ length line
unfolding word_of
word_length line = length-map line (λ b. b - 48)

-- a line by the tests on its length and its bytes
pub reads_slot : (line : List ℕ) → is_slot line ≡ true → read_line line ≡ slot (word_of line)
unfolding read_line
reads_slot line e = rw e

no_slot : (line : List ℕ) → (length line ≡ 16 → ⊥) → is_slot line ≡ false
unfolding is_slot
no_slot line d = rw (ne_eqb (length line) 16 d)

no_miss : (line : List ℕ) → (length line ≡ 1 → ⊥) → is_miss line ≡ false
unfolding is_miss
no_miss line d = rw (ne_eqb (length line) 1 d)

-- a miss is no slot
pub reads_miss : (line : List ℕ) → is_miss line ≡ true → read_line line ≡ miss
unfolding read_line is_miss
reads_miss line e =
    let n = miss_size line e in
    rw (no_slot line (λ f. omega (arith, n, f)), e)

pub reads_bad : (line : List ℕ) → is_slot line ≡ false → is_miss line ≡ false → read_line line ≡ bad
unfolding read_line
reads_bad line d f = rw (d, f)

pub reads_other : (line : List ℕ) → (length line ≡ 16 → ⊥) → (length line ≡ 1 → ⊥) → read_line line ≡ bad
reads_other line d f = reads_bad line (no_slot line d) (no_miss line f)

-- a line that reads as a slot is one
pub slot_reads : (line word : List ℕ) → slot word ≡ read_line line → is_slot line ≡ true
unfolding read_line
slot_reads line word e = by (is_slot line) (is_miss line) e
  where
    by : (a b : Bool) → slot word ≡ cond a (slot (word_of line)) (cond b miss bad) → a ≡ true
    by true b e = refl
    by false true e = let z : ◌≡◌ {A = ℕ} 0 1 = cc in absurd (omega arith)
    by false false e = let z : ◌≡◌ {A = ℕ} 0 1 = cc in absurd (omega arith)

-- a line of any length reads as its first 17 bytes do
pub reads_kept : (line : List ℕ) → read_line (take 17 line) ≡ read_line line
reads_kept line = by (leb (length line) 17) refl
  where
    by : (t : Bool) → leb (length line) 17 ≡ t → read_line (take 17 line) ≡ read_line line
    by true e = ap read_line (take_all 17 line (leb-true (length line) 17 e))
    by false e =
        let long : 17 < length line = leb-false (length line) 17 e in
        let n : length (take 17 line) ≡ 17 = length-take-le 17 line (omega arith) in
        reads_other (take 17 line) (λ f. omega arith) (λ f. omega arith) ∙ sym (reads_other line (λ f. omega arith) (λ f. omega arith))

-- the next symbol stored behind those before it, and the word when all are
pub word_next : (line word out : List ℕ) (i : ℕ) → length line ≡ length word → i < length line → out ≡ put word 0 (take i (word_of line))
    → set out i (at line i - 48) ≡ put word 0 (take (i + 1) (word_of line))
word_next line word out i e h p =
    let n = word_length line in
    ap (λ k. set out k (at line i - 48)) (sym (zero-add i))
    ∙ ap (set out (0 + i)) (sym (word_at line i))
    ∙ put_byte word out 0 (word_of line) i (omega arith) (omega arith) p

pub word_all : (line word out : List ℕ) (i : ℕ) → length line ≡ length word → length line ≤ i → out ≡ put word 0 (take i (word_of line)) → out ≡ word_of line
unfolding put
word_all line word out i e h p =
    let n = word_length line in
    let short : length word ≤ 0 + length (word_of line) = omega arith in
    p ∙ ap (put word 0) (take_all i (word_of line) (omega arith))
    ∙ ap (λ l. word_of line ++ l) (drop_of_length-le word short) ∙ append-nil (word_of line)
