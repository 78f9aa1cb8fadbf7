-- The largest of some symbols is below q exactly where all of them are. Assumes nothing.
use Rattle.std.proofs.Common.{ℕ, suc, zero, ◌+◌, ◌-◌, ◌≤◌, ◌<◌, ◌≡◌, max, List, [], ◌∷◌, length, drop, arith, ◌∙◌, length-take, length-drop}
use Rattle.std.proofs.lemmas.List.{get_or-take, get_or-drop}
use Rattle.std.specs.List.{fold, slice_range}
use borrow.Author.Tests.{lt-ltb, ltb-true}
use lib.Dec.{ltb}
use Rattle.code_theory.specs.Sum.{at}
use Rattle.code_questions.specs.Internal.{Tells}

-- it is at least each of them
fold_least : (xs : List ℕ) (a : ℕ) → a ≤ fold max a xs
fold_least [] a = omega arith
fold_least (x ∷ xs) a = omega (arith, fold_least xs (max a x))

fold_bound : (xs : List ℕ) (a l : ℕ) → l < length xs → at xs l ≤ fold max a xs
fold_bound [] a l h = omega arith
fold_bound (x ∷ xs) a zero h = omega (arith, fold_least xs (max a x))
fold_bound (x ∷ xs) a (suc l) h = fold_bound xs (max a x) l (omega arith)

-- and one of them, or the number that it begins with
fold_reached : (xs : List ℕ) (a q : ℕ) → a < q → ((l : ℕ) → l < length xs → at xs l < q) → fold max a xs < q
fold_reached [] a q h f = h
fold_reached (x ∷ xs) a q h f = fold_reached xs (max a x) q (omega (arith, f 0 (omega arith))) (λ l k. f (suc l) (omega arith))

-- the symbols of a part
module _ (n i : ℕ) (s : List ℕ) where
  part_size : i + n ≤ length s → length (slice_range s i (i + n)) ≡ n
  part_size room = omega (arith, length-take (i + n - i) (drop i s), length-drop i s)

  part_at : (l : ℕ) → l < n → at (slice_range s i (i + n)) l ≡ at s (i + l)
  part_at l h = get_or-take (i + n - i) (drop i s) l 0 (omega arith) ∙ get_or-drop i s l 0

-- top is the largest of the n symbols of s from place i on
pub top_tells : (q n i top : ℕ) (s : List ℕ) → 0 < q → i + n ≤ length s → top ≡ fold max 0 (slice_range s i (i + n)) → Tells (ltb top q) q n s i
top_tells q n i top s h room e = record {
  yes = λ y l k. omega (arith, e, part_at n i s l k, ltb-true top q y, fold_bound (slice_range s i (i + n)) 0 l (omega (arith, part_size n i s room)));
  all = λ f. lt-ltb top q (omega (arith, e, fold_reached (slice_range s i (i + n)) 0 q h (λ l k. each f l k)));
}
  where
    each : ((l : ℕ) → l < n → at s (i + l) < q) → (l : ℕ) → l < length (slice_range s i (i + n)) → at (slice_range s i (i + n)) l < q
    each f l k =
        let k' : l < n = omega (arith, part_size n i s room) in
        omega (arith, part_at n i s l k', f l k')
