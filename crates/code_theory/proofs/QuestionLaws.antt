-- What a yes to each question says. Assumes nothing.
use Prim.Native.Nat.{ℕ, zero, suc, suc-le-suc, ◌+◌, ◌-◌, ◌%◌, ◌^◌, ◌≤◌, ◌<◌}
use mathlib.Core.Path.{◌≡◌, refl, ap, sym, ◌∙◌}
use mathlib.Core.Logic.{◌≢◌, ◌⊎◌, inl, inr, ⊎_elim}
use mathlib.Core.Bool.{Bool, true, false, ◌&&◌, ◌||◌, false≢true}
use mathlib.Core.List.{List, [], ◌∷◌}
use native.Mathlib.Nat.{not-suc-le-zero, le_of_suc-le-suc}
use native.Mathlib.Numerals.{add-one}
use native.Mathlib.Omega.{arith}
use lib.Dec.{eqb, leb, ltb}
use lib.ListN.{length}
use lib.Bits.{bit_and, and_mask}
use borrow.Author.Tests.{eqb-true, leb-true, ltb-true, lt-ltb, eq-eqb, ne_eqb}
use Rattle.code_theory.specs.Sum.{at}
use Rattle.code_theory.specs.Code.{Symbols}
use Rattle.code_theory.specs.Question.{ask, is_alphabet, is_variables, is_message_size, is_word_size, all_below, Answer, accepted, refused, answer, after}
use Rattle.code_theory.specs.Internal.{answer_number}

pub and_true : (a b : Bool) → a && b ≡ true → (a ≡ true) × (b ≡ true)
and_true true b e = (refl, e)
and_true false b e = absurd (false≢true e)

or_cases : (a b : Bool) → a || b ≡ true → (a ≡ true) ⊎ (b ≡ true)
or_cases true b e = inl refl
or_cases false b e = inr e

-- where questions end in 0, the first is answered yes, and the rest ends in 0 too
pub ask_yes : (b : Bool) (n rest : ℕ) → ask b (suc n) rest ≡ 0 → (b ≡ true) × (rest ≡ 0)
unfolding ask
ask_yes true n rest e = (refl, e)
ask_yes false n rest e = absurd (omega arith)

-- one step of the questions
pub ask_on : (b : Bool) (n rest : ℕ) → b ≡ true → ask b n rest ≡ rest
unfolding ask
ask_on b n rest e = ap (λ a. ask a n rest) e

pub ask_no : (b : Bool) (n rest : ℕ) → b ≡ false → ask b n rest ≡ n
unfolding ask
ask_no b n rest e = ap (λ a. ask a n rest) e

-- questions that begin alike, r and s behind them: s counts only where all before it are answered yes
pub ask_never : (b : Bool) (n r s : ℕ) → (r ≢ 0 → s ≡ r) → ask b n r ≢ 0 → ask b n s ≡ ask b n r
unfolding ask
ask_never true n r s h d = h d
ask_never false n r s h d = refl

pub ask_later : (b : Bool) (n r s x : ℕ) → (r ≡ 0 → s ≡ x) → ask b (suc n) r ≡ 0 → ask b (suc n) s ≡ x
unfolding ask
ask_later true n r s x h e = h e
ask_later false n r s x h e = absurd (omega arith)

-- the three alphabets
abbrev pub Alphabet : ℕ → Type 0
Alphabet q = (q ≡ 2) ⊎ ((q ≡ 4) ⊎ (q ≡ 8))

pub alphabet : (q : ℕ) → is_alphabet q ≡ true → Alphabet q
unfolding is_alphabet
alphabet q e =
    ⊎_elim (λ h. inl (eqb-true q 2 h))
    (λ h. inr (⊎_elim (λ g. inl (eqb-true q 4 g)) (λ g. inr (eqb-true q 8 g)) (or_cases (eqb q 4) (eqb q 8) h)))
    (or_cases (eqb q 2) (eqb q 4 || eqb q 8) e)

pub alphabet_bounds : (q : ℕ) → Alphabet q → (2 ≤ q) × (q ≤ 8)
alphabet_bounds q (inl e) = omega arith
alphabet_bounds q (inr (inl e)) = omega arith
alphabet_bounds q (inr (inr e)) = omega arith

-- no alphabet is empty
pub alphabet_positive : (q : ℕ) → is_alphabet q ≡ true → 0 < q
alphabet_positive q a = omega (arith, alphabet_bounds q (alphabet q a))

-- a mask with q - 1 is the remainder modulo q
pub mask_mod : (q x : ℕ) → Alphabet q → bit_and x (q - 1) ≡ x % q
mask_mod q x (inl e) = rw e (and_mask x 1)
mask_mod q x (inr (inl e)) = rw e (and_mask x 2)
mask_mod q x (inr (inr e)) = rw e (and_mask x 3)

pub variables_bounds : (m : ℕ) → is_variables m ≡ true → (2 ≤ m) × (m ≤ 8)
unfolding is_variables
variables_bounds m e = let (a, b) = and_true (leb 2 m) (leb m 8) e in (leb-true 2 m a, leb-true m 8 b)

pub message_size : (m : ℕ) (s : List ℕ) → is_message_size m s ≡ true → length s ≡ suc m
unfolding is_message_size
message_size m s e = eqb-true (length s) (suc m) e

pub word_size : (m : ℕ) (w : List ℕ) → is_word_size m w ≡ true → length w ≡ 2 ^ m
unfolding is_word_size
word_size m w e = eqb-true (length w) (2 ^ m) e

pub all_below_lem : (q : ℕ) (s : List ℕ) → all_below q s ≡ true → (i : ℕ) → i < length s → at s i < q
unfolding all_below
all_below_lem q [] e i l = absurd (not-suc-le-zero l)
all_below_lem q (x ∷ s) e zero l = ltb-true x q (and_true (ltb x q) (all_below q s) e).0
all_below_lem q (x ∷ s) e (suc i) l = all_below_lem q s (and_true (ltb x q) (all_below q s) e).1 i (le_of_suc-le-suc l)

pub below_all : (q : ℕ) (s : List ℕ) → ((i : ℕ) → i < length s → at s i < q) → all_below q s ≡ true
unfolding all_below
below_all q [] h = refl
below_all q (x ∷ s) h = rw (lt-ltb x q (h zero (omega arith))) (below_all q s (λ i l. h (suc i) (suc-le-suc l)))

-- a list of l symbols, as the questions ask for it
pub symbols : (q l : ℕ) (s : List ℕ) → length s ≡ l → all_below q s ≡ true → Symbols q l s
symbols q l s e b = record { size = e; below = λ i h. all_below_lem q s b i (omega (arith, e)) }

-- the sizes as code tests them
pub message_yes : (m : ℕ) (s : List ℕ) → length s ≡ m + 1 → is_message_size m s ≡ true
unfolding is_message_size
message_yes m s e = eq-eqb _ _ (e ∙ add-one m)

pub message_no : (m : ℕ) (s : List ℕ) → (length s ≡ m + 1 → ⊥) → is_message_size m s ≡ false
unfolding is_message_size
message_no m s d = ne_eqb _ _ (λ e. d (e ∙ sym (add-one m)))

pub word_yes : (m : ℕ) (w : List ℕ) → length w ≡ 2 ^ m → is_word_size m w ≡ true
unfolding is_word_size
word_yes m w e = eq-eqb _ _ e

pub word_no : (m : ℕ) (w : List ℕ) → (length w ≡ 2 ^ m → ⊥) → is_word_size m w ≡ false
unfolding is_word_size
word_no m w d = ne_eqb _ _ d

-- what a call answers and leaves where each question is answered yes, and where one is answered no
pub answer_yes : (n : ℕ) (values : List ℕ) → n ≡ 0 → answer n values ≡ accepted values
unfolding answer
answer_yes n values e = rw e

pub answer_no : (n : ℕ) (values : List ℕ) → n ≢ 0 → answer n values ≡ refused n
unfolding answer
answer_no zero values d = absurd (d refl)
answer_no (suc n) values d = refl

pub after_yes : {A : Type 0} (n : ℕ) (new old : A) → n ≡ 0 → after n new old ≡ new
unfolding after
after_yes n new old e = rw e

pub after_no : {A : Type 0} (n : ℕ) (new old : A) → n ≢ 0 → after n new old ≡ old
unfolding after
after_no zero new old d = absurd (d refl)
after_no (suc n) new old d = refl

-- what an answer says of the questions
pub answer_accepted : (n : ℕ) (values given : List ℕ) → accepted given ≡ answer n values → (n ≡ 0) × (given ≡ values)
unfolding answer
answer_accepted zero values given e = (refl, cc)
answer_accepted (suc n) values given e = let z : ◌≡◌ {A = ℕ} 0 1 = cc in absurd (omega arith)

pub answer_refused : (n number : ℕ) (values : List ℕ) → refused number ≡ answer n values → (number ≡ n) × (n ≢ 0)
unfolding answer
answer_refused zero number values e = let z : ◌≡◌ {A = ℕ} 0 1 = cc in absurd (omega arith)
answer_refused (suc n) number values e = (cc, λ z. absurd (omega (arith, z)))

-- an answer as one number
pub number_yes : (a : Answer) (v : List ℕ) → accepted v ≡ a → 100 ≡ answer_number a
unfolding answer_number
number_yes a v e = ap answer_number e

pub number_no : (a : Answer) (n : ℕ) → refused n ≡ a → n ≡ answer_number a
unfolding answer_number
number_no a n e = ap answer_number e
