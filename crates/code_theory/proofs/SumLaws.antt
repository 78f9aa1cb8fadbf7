-- Laws of sums and of lists given by their elements. Assumes nothing.
use Prim.Native.Nat.{ℕ, zero, suc, ◌+◌, ◌*◌, ◌≤◌, ◌<◌}
use mathlib.Core.Path.{◌≡◌, refl, ap₂, sym, ◌∙◌}
use mathlib.Core.Logic.{◌⊎◌, inl, inr}
use mathlib.Core.List.{List, [], ◌∷◌, ◌++◌}
use native.Mathlib.Nat.{add-zero, add-suc, not-suc-le-zero, eq-or-lt_of_le, le_of_suc-le-suc}
use native.Mathlib.Numerals.{add-one}
use native.Mathlib.Omega.{arith}
use lib.ListN.{length, length-append, get_or-append}
use lib.Seq.{ext_get_or, get_or_at}
use Rattle.code_theory.specs.Sum.{sum, tabulate, at}

pub sum_ext : (n : ℕ) (f g : ℕ → ℕ) → ((i : ℕ) → i < n → f i ≡ g i) → sum n f ≡ sum n g
unfolding sum
sum_ext zero f g h = refl
sum_ext (suc n) f g h = ap₂ (λ x y. x + y) (sum_ext n f g (λ i l. h i (omega arith))) (h n (omega arith))

pub sum_le : (n : ℕ) (f g : ℕ → ℕ) → ((i : ℕ) → i < n → f i ≤ g i) → sum n f ≤ sum n g
unfolding sum
sum_le zero f g h = omega arith
sum_le (suc n) f g h = omega (arith, sum_le n f g (λ i l. h i (omega arith)), h n (omega arith))

pub sum_add : (n : ℕ) (f g : ℕ → ℕ) → sum n (λ i. f i + g i) ≡ sum n f + sum n g
unfolding sum
sum_add zero f g = refl
sum_add (suc n) f g = omega (arith, sum_add n f g)

pub sum_const : (n c : ℕ) → sum n (λ i. c) ≡ n * c
unfolding sum
sum_const zero c = omega arith
sum_const (suc n) c = omega (arith, sum_const n c)

-- the first term taken out
pub sum_first : (n : ℕ) (f : ℕ → ℕ) → sum (suc n) f ≡ f 0 + sum n (λ i. f (suc i))
unfolding sum
sum_first zero f = omega arith
sum_first (suc n) f = omega (arith, sum_first n f)

-- the even indices and the odd ones
pub sum_double : (n : ℕ) (f : ℕ → ℕ) → sum (2 * n) f ≡ sum n (λ j. f (2 * j) + f (suc (2 * j)))
unfolding sum
sum_double zero f = refl
sum_double (suc n) f =
    let e : 2 * suc n ≡ suc (suc (2 * n)) = omega arith in
    rw e (omega (arith, sum_double n f))

-- the first a terms and the b terms after them
pub sum_split : (a b : ℕ) (f : ℕ → ℕ) → sum (a + b) f ≡ sum a f + sum b (λ j. f (a + j))
unfolding sum
sum_split a zero f = rw add-zero (omega arith)
sum_split a (suc b) f = rw add-suc (omega (arith, sum_split a b f))

-- the sum up to n + 1, as a loop counts: the sum up to n plus one term
pub sum_next : (n : ℕ) (f : ℕ → ℕ) → sum (n + 1) f ≡ sum n f + f n
unfolding sum
sum_next n f = rw add-one

-- a sum of n terms that are at most c each
pub sum_bound : (n c : ℕ) (f : ℕ → ℕ) → ((i : ℕ) → i < n → f i ≤ c) → sum n f ≤ n * c
sum_bound n c f h = omega (arith, sum_le n f (λ i. c) h, sum_const n c)

pub tabulate_length : (n : ℕ) (f : ℕ → ℕ) → length (tabulate n f) ≡ n
unfolding tabulate
tabulate_length zero f = refl
tabulate_length (suc n) f = omega (arith, length-append (tabulate n f) (f n ∷ []), tabulate_length n f)

pub tabulate_at : (n : ℕ) (f : ℕ → ℕ) (i : ℕ) → i < n → at (tabulate n f) i ≡ f i
unfolding tabulate
tabulate_at zero f i l = absurd (not-suc-le-zero l)
tabulate_at (suc n) f i l = go (tabulate_at n f i) (eq-or-lt_of_le (le_of_suc-le-suc l))
  where
    go : (i < n → at (tabulate n f) i ≡ f i) → (i ≡ n) ⊎ (i < n) → at (tabulate n f ++ (f n ∷ [])) i ≡ f i
    go ih (inl e) = rw e (get_or_at (tabulate n f) (f n) [] 0 n (tabulate_length n f))
    go ih (inr m) = get_or-append (tabulate n f) (f n ∷ []) 0 i (omega (arith, tabulate_length n f)) ∙ ih m

-- a list of n elements is the table of its elements
pub tabulate_is : (n : ℕ) (f : ℕ → ℕ) (l : List ℕ) → length l ≡ n → ((i : ℕ) → i < n → at l i ≡ f i) → l ≡ tabulate n f
tabulate_is n f l e h =
    ext_get_or 0 l (tabulate n f) (omega (arith, e, tabulate_length n f))
    (λ i m. let k : i < n = omega (arith, e) in h i k ∙ sym (tabulate_at n f i k))
