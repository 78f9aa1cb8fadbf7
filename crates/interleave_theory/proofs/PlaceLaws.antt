-- The places of a group, and that putting back undoes rearranging, for all sizes. Assumes nothing.
use Prim.Native.Nat.{ℕ, zero, suc, ◌+◌, ◌*◌, ◌/◌, ◌%◌, ◌≤◌, ◌<◌}
use mathlib.Core.Path.{◌≡◌, ap, ap₂, sym, subst, ◌∙◌}
use mathlib.Core.Logic.{◌⊎◌, inl, inr}
use mathlib.Core.Bool.{true}
use mathlib.Core.List.{List}
use native.Mathlib.Nat.{suc-mul, mul_comm, mul_assoc, add-mul, mul-le-mul_right, mod-lt, mod-add-div', div-add-mod', div-eq_of_lt, mod-eq_of_lt, div-lt_iff_lt-mul, mul-add-div_right, mul-add-mod_self_right, eq-or-lt_of_le, le_of_suc-le-suc}
use native.Mathlib.Omega.{arith}
use lib.ListN.{length, set}
use lib.Seq.{ext_get_or, get_or-set_same, get_or-set_other}
use Rattle.code_theory.specs.Sum.{at}
use Rattle.code_theory.specs.Question.{all_below}
use Rattle.code_theory.proofs.SumLaws.{tabulate_length, tabulate_at, tabulate_is}
use Rattle.code_theory.proofs.QuestionLaws.{all_below_lem, below_all}
use Rattle.interleave_theory.specs.Place.{across, transposed, rearranged, put_back}
use Rattle.interleave_theory.specs.Internal.{Filled, Transposes}

-- place s of row w, among rows of b symbols
row_div : (w b s : ℕ) → s < b → (w * b + s) / b ≡ w
row_div w b s h = mul-add-div_right {m = b} (omega arith) w s ∙ ap (λ k. w + k) (div-eq_of_lt h) ∙ omega arith

row_mod : (w b s : ℕ) → s < b → (w * b + s) % b ≡ s
row_mod w b s h = mul-add-mod_self_right w b s ∙ mod-eq_of_lt h

-- no place stands in two rows or in two columns
pub one_row : (b w s w' s' : ℕ) → s < b → s' < b → w * b + s ≡ w' * b + s' → w ≡ w'
one_row b w s w' s' h h' e = sym (row_div w b s h) ∙ ap (λ p. p / b) e ∙ row_div w' b s' h'

pub one_column : (b w s w' s' : ℕ) → s < b → s' < b → w * b + s ≡ w' * b + s' → s ≡ s'
one_column b w s w' s' h h' e = sym (row_mod w b s h) ∙ ap (λ p. p % b) e ∙ row_mod w' b s' h'

pub row_lt : (a b w s : ℕ) → w < a → s < b → w * b + s < a * b
row_lt a b w s h k = omega (arith, mul-le-mul_right {m = suc w} {n = a} b h, suc-mul w b)

pub column_lt : (a b w s : ℕ) → w < a → s < b → s * a + w < a * b
column_lt a b w s h k = subst (λ n. s * a + w < n) (mul_comm b a) (row_lt b a s w k h)

-- the place, by row and column
pub across_at : (a b w s : ℕ) → w < a → across a b (s * a + w) ≡ w * b + s
unfolding across
across_at a b w s h = ap₂ (λ x y. x * b + y) (row_mod s a w h) (row_div s a w h)

-- where there is a place, there is a row
some_row : (a b p : ℕ) → p < a * b → 0 < a
some_row zero b p h = absurd (omega (arith, h))
some_row (suc a) b p h = omega arith

column : (a b p : ℕ) → p < a * b → p / a < b
column a b p h = (div-lt_iff_lt-mul {k = a} {x = p} {y = b} (some_row a b p h)).1 (subst (λ k. p < k) (mul_comm a b) h)

pub across_lt : (a b p : ℕ) → p < a * b → across a b p < a * b
unfolding across
across_lt a b p h = row_lt a b (p % a) (p / a) (mod-lt p (some_row a b p h)) (column a b p h)

-- ONE PLACE FOR BOTH DIRECTIONS: the place of the other direction leads back
across_back : (a b p : ℕ) → p < a * b → across b a (across a b p) ≡ p
unfolding across
across_back a b p h =
    ap₂ (λ x y. x * a + y) (row_mod (p % a) b (p / a) (column a b p h)) (row_div (p % a) b (p / a) (column a b p h)) ∙ div-add-mod' p a

pub transposed_length : (a b : ℕ) (x : List ℕ) → length (transposed a b x) ≡ a * b
unfolding transposed
transposed_length a b x = tabulate_length (a * b) (λ p. at x (across a b p))

transposed_at : (a b : ℕ) (x : List ℕ) (p : ℕ) → p < a * b → at (transposed a b x) p ≡ at x (across a b p)
unfolding transposed
transposed_at a b x p h = tabulate_at (a * b) (λ i. at x (across a b i)) p h

pub transposed_is : (a b : ℕ) (x y : List ℕ) → length y ≡ a * b → Transposes a b x y → y ≡ transposed a b x
unfolding transposed
transposed_is a b x y l f = tabulate_is (a * b) (λ p. at x (across a b p)) y l f.places

-- by rows and columns
pub transposes_by_rows : (a b : ℕ) (x y : List ℕ) → ((s w : ℕ) → s < b → w < a → at y (s * a + w) ≡ at x (w * b + s)) → Transposes a b x y
unfolding across
transposes_by_rows a b x y f = record { places = λ p h. ap (at y) (sym (div-add-mod' p a)) ∙ f (p / a) (p % a) (column a b p h) (mod-lt p (some_row a b p h)) }

-- PLACE s × a + w has symbol s of row w, which stood at w × b + s
pub goes : (a b : ℕ) (x : List ℕ) (w s : ℕ) → w < a → s < b → at (transposed a b x) (s * a + w) ≡ at x (w * b + s)
goes a b x w s h k = transposed_at a b x (s * a + w) (column_lt a b w s h k) ∙ ap (at x) (across_at a b w s h)

-- so it is with a group rearranged, and with one put back
pub rearranged_goes : (count n : ℕ) (x : List ℕ) (w s : ℕ) → w < count → s < n → at (rearranged count n x) (s * count + w) ≡ at x (w * n + s)
rearranged_goes count n x w s h k = goes count n x w s h k

pub put_back_goes : (count n : ℕ) (y : List ℕ) (w s : ℕ) → w < count → s < n → at (put_back count n y) (w * n + s) ≡ at y (s * count + w)
put_back_goes count n y w s h k = goes n count y s w k h

-- UNDONE: transposing back gives the same list
pub undone : (a b : ℕ) (x : List ℕ) → length x ≡ a * b → transposed b a (transposed a b x) ≡ x
undone a b x h =
    let size : length (transposed b a (transposed a b x)) ≡ b * a = transposed_length b a (transposed a b x) in
    ext_get_or 0 (transposed b a (transposed a b x)) x (size ∙ mul_comm b a ∙ sym h) (λ i l.
    let k : i < b * a = subst (λ n. i < n) size l in
    let j : across b a i < a * b = subst (λ n. across b a i < n) (mul_comm b a) (across_lt b a i k) in
    transposed_at b a (transposed a b x) i k ∙ transposed_at a b x (across b a i) j ∙ ap (at x) (across_back b a i k))

-- so it is with a group of W words of n symbols: putting back undoes rearranging, and rearranging undoes putting back
pub rearranged_undone : (count n : ℕ) (x : List ℕ) → length x ≡ count * n → put_back count n (rearranged count n x) ≡ x
rearranged_undone count n x h = undone count n x h

pub put_back_undone : (count n : ℕ) (y : List ℕ) → length y ≡ count * n → rearranged count n (put_back count n y) ≡ y
put_back_undone count n y h = undone n count y (h ∙ mul_comm count n)

-- the symbols stay the same ones, so those of an alphabet stay in it
pub transposed_below : (q a b : ℕ) (x : List ℕ) → length x ≡ a * b → all_below q x ≡ true → all_below q (transposed a b x) ≡ true
transposed_below q a b x n h = below_all q (transposed a b x) (λ i l.
    let k : i < a * b = subst (λ j. i < j) (transposed_length a b x) l in
    subst (λ s. s < q) (sym (transposed_at a b x i k)) (all_below_lem q x h (across a b i) (omega (arith, n, across_lt a b i k))))

-- the last of n + 1 numbers, or one before it
pub last_or_before : (i n : ℕ) → i < n + 1 → (i ≡ n) ⊎ (i < n)
last_or_before i n h = eq-or-lt_of_le (le_of_suc-le-suc (let z : suc i ≤ suc n = omega (arith, h) in z))

-- one place more: a loop that goes up the places writes place k
pub filled_next : (a b k p i : ℕ) (x y : List ℕ) → p ≡ k → i ≡ across a b k → k < length y → Filled a b k x y → Filled a b (k + 1) x (set y p (at x i))
filled_next a b k p i x y e f l h = record { places = λ j m. go j (last_or_before j k m) }
  where
    go : (j : ℕ) → (j ≡ k) ⊎ (j < k) → at (set y p (at x i)) j ≡ at x (across a b j)
    go j (inl z) =
        ap (λ n. at (set y p (at x i)) n) (z ∙ sym e) ∙ get_or-set_same y p (at x i) 0 (omega (arith, l, e)) ∙ ap (at x) (f ∙ ap (across a b) (sym z))
    go j (inr z) = get_or-set_other y p j (at x i) 0 (λ n. omega (arith, z, n, e)) ∙ h.places j z

-- what is filled up to k is filled up to any smaller number
pub filled_less : (a b k n : ℕ) (x y : List ℕ) → n ≤ k → Filled a b k x y → Filled a b n x y
filled_less a b k n x y l h = record { places = λ p m. h.places p (omega (arith, l, m)) }

-- a × c rows in two steps: first as a rows of c × b symbols, then as c rows of b × a
across_twice : (a c b p : ℕ) → 0 < a → 0 < c → across a (c * b) (across c (b * a) p) ≡ across (a * c) b p
unfolding across
across_twice a c b p ha hc =
    let v = p % c in
    let t = p / c in
    let u = t % a in
    let s = t / a in
    let lu : u < a = mod-lt t ha in
    let lv : v < c = mod-lt p hc in
    let e1 : v * (b * a) + t ≡ (v * b + s) * a + u =
    omega (arith, mul_assoc v b a, add-mul (v * b) s a, mod-add-div' t a) in
    let e2 : s * (a * c) + (u * c + v) ≡ p =
    omega (arith, mul_assoc s a c, add-mul (s * a) u c, mod-add-div' p c, ap (λ k. k * c) (mod-add-div' t a), add-mul u (s * a) c) in
    let e3 : (u * c + v) * b + s ≡ u * (c * b) + (v * b + s) =
    omega (arith, add-mul (u * c) v b, mul_assoc u c b) in
    ap (across a (c * b)) e1 ∙ across_at a (c * b) u (v * b + s) lu ∙ sym e3
    ∙ sym (across_at (a * c) b (u * c + v) s (row_lt a c u v lu lv)) ∙ ap (across (a * c) b) e2

pub transposes_twice : (a c b : ℕ) (x y z : List ℕ) → 0 < a → 0 < c → Transposes a (c * b) x y → Transposes c (b * a) y z → Transposes (a * c) b x z
transposes_twice a c b x y z ha hc f g = record {
  places = λ p h.
      let n : a * c * b ≡ c * (b * a) = ap (λ k. k * b) (mul_comm a c) ∙ mul_assoc c a b ∙ ap (λ k. c * k) (mul_comm a b) in
      let n' : a * c * b ≡ a * (c * b) = mul_assoc a c b in
      let k : p < c * (b * a) = omega (arith, h, n) in
      g.places p k ∙ f.places (across c (b * a) p) (omega (arith, across_lt c (b * a) p k, n, n')) ∙ ap (at x) (across_twice a c b p ha hc);
}
