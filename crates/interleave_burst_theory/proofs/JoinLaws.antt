-- Words that are joined to a group, rearranged and put back. Assumes nothing.
use Prim.Native.Nat.{ℕ, zero, suc, ◌+◌, ◌*◌, ◌^◌, ◌<◌}
use mathlib.Core.Path.{◌≡◌, refl, ap, sym, subst, ◌∙◌}
use mathlib.Core.Bool.{true}
use mathlib.Core.List.{List, [], ◌∷◌, ◌++◌}
use mathlib.Core.Option.{some, some-injective, none-ne-some}
use native.Mathlib.Nat.{suc-mul, zero-mul, mul_comm, mul-le-mul_right}
use native.Mathlib.Omega.{arith}
use lib.Dec.{ltb}
use lib.ListN.{length, get_elem?, drop, length-append, length-drop, get_or-append}
use lib.Seq.{length-take-le, get_or-take, get_or-drop, get_or-append-add}
use Rattle.code_theory.specs.Sum.{at}
use Rattle.code_theory.specs.Code.{codeword, Symbols}
use Rattle.code_theory.specs.Question.{is_alphabet, is_variables, all_below}
use Rattle.code_theory.proofs.CodeLaws.{codeword_length, codeword_at, symbol_at_lt}
use Rattle.code_theory.proofs.QuestionLaws.{all_below_lem, below_all, and_true}
use Rattle.interleave_theory.specs.Place.{rearranged, put_back}
use Rattle.interleave_theory.specs.Group.{is_group, group_refusal}
use Rattle.interleave_theory.proofs.PlaceLaws.{column_lt, rearranged_goes, put_back_goes, transposed_length}
use Rattle.interleave_theory.proofs.GroupLaws.{not_refused}
use Rattle.interleave_burst_theory.specs.Burst.{joined, word_of}

-- each of the words has n symbols below q
abbrev pub Words : ℕ → ℕ → List (List ℕ) → Type 0
Words q n words = (w : ℕ) (word : List ℕ) → get_elem? words w ≡ some word → Symbols q n word

pub codeword_symbols : (q m : ℕ) (message : List ℕ) → 0 < q → Symbols q (2 ^ m) (codeword q m message)
codeword_symbols q m message h = record {
  size = codeword_length q m message;
  below = λ i l. subst (λ a. a < q) (sym (codeword_at q m message i l)) (symbol_at_lt q m (at message) i h);
}

pub index_lt : {A : Type 0} (xs : List A) (i : ℕ) (x : A) → get_elem? xs i ≡ some x → i < length xs
index_lt [] i x e = absurd (none-ne-some x e)
index_lt (y ∷ xs) zero x e = omega arith
index_lt (y ∷ xs) (suc i) x e = omega (arith, index_lt xs i x e)

joined_length : (q n : ℕ) (words : List (List ℕ)) → Words q n words → length (joined words) ≡ length words * n
unfolding joined
joined_length q n [] h = sym (zero-mul n)
joined_length q n (word ∷ words) h =
    omega (arith, length-append word (joined words), (h 0 word refl).size, joined_length q n words (λ w. h (suc w)), suc-mul (length words) n)

append_below : (q : ℕ) (xs ys : List ℕ) → all_below q xs ≡ true → all_below q ys ≡ true → all_below q (xs ++ ys) ≡ true
unfolding all_below
append_below q [] ys h k = k
append_below q (x ∷ xs) ys h k = let (a, b) = and_true (ltb x q) (all_below q xs) h in rw (a, append_below q xs ys b k)

joined_below : (q n : ℕ) (words : List (List ℕ)) → Words q n words → all_below q (joined words) ≡ true
unfolding joined all_below
joined_below q n [] h = refl
joined_below q n (word ∷ words) h =
    let first = h 0 word refl in
    append_below q word (joined words) (below_all q word (λ i l. first.below i (omega (arith, first.size)))) (joined_below q n words (λ w. h (suc w)))

-- SYMBOL s OF WORD w of a group
joined_at : (q n : ℕ) (words : List (List ℕ)) → Words q n words → (w : ℕ) (word : List ℕ) → get_elem? words w ≡ some word → (s : ℕ) → s < n
    → at (joined words) (w * n + s) ≡ at word s
unfolding joined
joined_at q n [] h w word e s l = absurd (none-ne-some word e)
joined_at q n (first ∷ words) h zero word e s l =
    let place : 0 * n + s ≡ s = omega (arith, zero-mul n) in
    ap (at (first ++ joined words)) place ∙ get_or-append first (joined words) 0 s (omega (arith, (h 0 first refl).size))
    ∙ ap (λ x. at x s) (some-injective first word e)
joined_at q n (first ∷ words) h (suc w) word e s l =
    let place : suc w * n + s ≡ length first + (w * n + s) = omega (arith, suc-mul w n, (h 0 first refl).size) in
    ap (at (first ++ joined words)) place ∙ get_or-append-add first (joined words) (w * n + s) 0 ∙ joined_at q n words (λ u. h (suc u)) w word e s l

-- and where it is when the group is rearranged
pub rearranged_at : (q n count : ℕ) (words : List (List ℕ)) → Words q n words → (w : ℕ) (word : List ℕ) → w < count → get_elem? words w ≡ some word
    → (s : ℕ) → s < n → at (rearranged count n (joined words)) (s * count + w) ≡ at word s
rearranged_at q n count words h w word k e s l = rearranged_goes count n (joined words) w s k l ∙ joined_at q n words h w word e s l

-- ACCEPTED: no group of W words of n symbols below q is refused where the target slice has its length
pub joined_accepted : (q m count : ℕ) (words : List (List ℕ)) (target : List ℕ) → is_alphabet q ≡ true → is_variables m ≡ true → is_group count ≡ true
    → Words q (2 ^ m) words → length words ≡ count → length target ≡ count * 2 ^ m → group_refusal q m count (joined words) target ≡ 0
joined_accepted q m count words target alphabet variables group h size room = not_refused q m count (joined words) target (record {
  alphabet = alphabet;
  variables = variables;
  group = group;
  source = joined_length q (2 ^ m) words h ∙ ap (λ k. k * 2 ^ m) size;
  target = room;
  below = joined_below q (2 ^ m) words h;
})

-- word w of a group put back
module _ (n count : ℕ) (y : List ℕ) (w : ℕ) (h : w < count) where
  pub put_back_at : (s : ℕ) → s < n → at (word_of n (put_back count n y) w) s ≡ at y (s * count + w)
  unfolding word_of
  put_back_at s l = get_or-take n (drop (w * n) (put_back count n y)) s 0 l ∙ get_or-drop (w * n) (put_back count n y) s 0 ∙ put_back_goes count n y w s h l

  pub put_back_length : length (word_of n (put_back count n y) w) ≡ n
  unfolding word_of
  put_back_length =
      length-take-le n (drop (w * n) (put_back count n y))
      (omega (arith, length-drop (w * n) (put_back count n y), transposed_length n count y, mul_comm n count, mul-le-mul_right {m = suc w} {n = count} n h, suc-mul w n))

  pub put_back_below : (q : ℕ) → length y ≡ count * n → all_below q y ≡ true → all_below q (word_of n (put_back count n y) w) ≡ true
  put_back_below q size below = below_all q (word_of n (put_back count n y) w) (λ s l.
      let k : s < n = subst (λ i. s < i) put_back_length l in
      subst (λ a. a < q) (sym (put_back_at s k)) (all_below_lem q y below (s * count + w) (omega (arith, size, column_lt count n w s h k))))
