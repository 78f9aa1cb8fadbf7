-- The count of differing places run by run, and that it never falls. Assumes nothing.
use Prim.Native.Nat.{ℕ, ◌+◌, ◌-◌, ◌≤◌, ◌<◌}
use mathlib.Core.Path.{◌≡◌, refl, ap, ap₂, sym, ◌∙◌, subst}
use mathlib.Core.Bool.{Bool, true, false, cond, not}
use mathlib.Core.List.{List}
use native.Mathlib.Omega.{arith}
use lib.ListN.{length, take, drop}
use Rattle.std.proofs.lemmas.List.{get_or-take, get_or-drop, length-take-le, length-drop}
use lib.Dec.{ltb, eqb}
use borrow.Author.Tests.{lt-ltb, le-ltb}
use Rattle.std.specs.Int.{from_bool}
use Rattle.code_theory.specs.Sum.{sum, at}
use Rattle.code_theory.specs.Modular.{differ}
use Rattle.code_theory.proofs.SumLaws.{sum_ext, sum_next, sum_split}
use Rattle.decode_near_places.specs.Internal.{differing}

module _ (a b : List ℕ) where
  pub none_yet : (i : ℕ) → 0 ≡ differing a b i (i - i)
  unfolding differing sum
  none_yet i = let e : i - i ≡ 0 = omega arith in sym (ap (λ n. differing a b i n) e)

  -- the run from place f on, with place i after the places before it
  pub one_more : (f i d : ℕ) → f ≤ i → d ≡ differ (at a i) (at b i) → differing a b f (i + 1 - f) ≡ differing a b f (i - f) + d
  unfolding differing
  one_more f i d l h =
      let n = i - f in
      let e : i + 1 - f ≡ n + 1 = omega arith in
      let p : i ≡ f + n = omega arith in
      ap (λ k. differing a b f k) e ∙ sum_next n _ ∙ ap (λ x. differing a b f n + x) (sym (h ∙ ap (λ k. differ (at a k) (at b k)) p))

  -- and the run from the first place on
  pub next_more : (n x y : ℕ) → x ≡ at a n → y ≡ at b n → differing a b 0 (n + 1) ≡ differing a b 0 n + differ x y
  next_more n x y e f =
      let p : n + 1 ≡ n + 1 - 0 = omega arith in
      let r : n - 0 ≡ n = omega arith in
      ap (λ k. differing a b 0 k) p ∙ one_more 0 n (differ x y) (omega arith) (ap₂ differ e f) ∙ ap (λ k. differing a b 0 k + differ x y) r

  -- what is counted up to a place, and in a run from there on
  pub run_more : (i n : ℕ) → differing a b 0 (i + n) ≡ differing a b 0 i + differing a b i n
  unfolding differing
  run_more i n = sum_split i n _ ∙ ap (λ x. differing a b 0 i + x) (sum_ext n _ _ (λ j l. ap (λ p. differ (at a p) (at b p)) (omega arith)))

  -- what is counted in two parts of n places from place i on
  pub part_counted : (i n k : ℕ) → k ≡ n → differing (take k (drop i a)) (take k (drop i b)) 0 n ≡ differing a b i n
  unfolding differing
  part_counted i n k e = sum_ext n _ _ (λ j l. ap₂ differ (place a j l) (place b j l))
    where
      place : (x : List ℕ) (j : ℕ) → j < n → at (take k (drop i x)) (0 + j) ≡ at x (i + j)
      place x j l = let p : 0 + j ≡ j = omega arith in ap (at (take k (drop i x))) p ∙ get_or-take k (drop i x) j 0 (omega (arith, l, e)) ∙ get_or-drop i x j 0

  -- and added to what was counted before place i
  pub found_more : (i n found k : ℕ) → i + n ≤ length a → i + n ≤ length b → k ≡ n
      → found ≡ differing (take k (drop i a)) (take k (drop i b)) 0 (length (take k (drop i b))) → differing a b 0 (i + n) ≡ differing a b 0 i + found
  found_more i n found k la lb e f =
      let h : length (take k (drop i b)) ≡ n = length-take-le k (drop i b) (omega (arith, e, lb, length-drop i b)) ∙ e in
      omega (arith, run_more i n, part_counted i n k e, f, ap (λ l. differing (take k (drop i a)) (take k (drop i b)) 0 l) h)

  -- the count never falls
  grows : (i n : ℕ) → i ≤ n → differing a b 0 i ≤ differing a b 0 n
  grows i n l =
      let e : i + (n - i) ≡ n = omega arith in
      subst (λ k. differing a b 0 i ≤ differing a b 0 k) e (omega (arith, run_more i (n - i)))

  -- every place is compared, and the quarter is not reached
  pub at_end : (n quarter wrong i : ℕ) → i ≡ n → wrong ≡ differing a b 0 i → wrong < quarter → true ≡ ltb (differing a b 0 n) quarter
  at_end n quarter wrong i e w h = sym (lt-ltb _ quarter (omega (arith, w, h, ap (λ k. differing a b 0 k) e)))

  -- the quarter is reached in the run of d places from place i on, so it is reached in all
  pub at_quarter : (n quarter wrong i d : ℕ) → i + d ≤ n → wrong ≡ differing a b 0 (i + d) → quarter ≤ wrong → false ≡ ltb (differing a b 0 n) quarter
  at_quarter n quarter wrong i d l w h = sym (le-ltb _ quarter (omega (arith, w, h, grows (i + d) n l)))

-- a place that differs counts as one
pub differ_byte : (x y n : ℕ) → n ≡ from_bool (not (eqb x y)) → n ≡ differ x y
unfolding differ
differ_byte x y n e = e ∙ go (eqb x y)
  where
    go : (b : Bool) → from_bool (not b) ≡ cond b 0 1
    go true = refl
    go false = refl

pub differ_bit : (x y : ℕ) → differ x y ≤ 1
unfolding differ
differ_bit x y = go (eqb x y)
  where
    go : (b : Bool) → cond b 0 1 ≤ 1
    go true = omega arith
    go false = omega arith
