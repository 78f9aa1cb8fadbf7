-- Laws of the word of a message and of the distance. Assumes nothing.
use Prim.Native.Nat.{ℕ, zero, suc, ◌+◌, ◌*◌, ◌/◌, ◌%◌, ◌^◌, ◌≤◌, ◌<◌}
use mathlib.Core.Path.{◌≡◌, ap, ap₂, sym, ◌∙◌}
use mathlib.Core.Logic.{◌⊎◌, inl, inr}
use mathlib.Core.List.{List}
use native.Mathlib.Nat.{mod-lt, not-suc-le-zero, eq-or-lt_of_le, le_of_suc-le-suc}
use native.Mathlib.Omega.{arith}
use lib.ListN.{length}
use lib.Pow.{pow_mono}
use Rattle.code_theory.specs.Sum.{sum, at}
use Rattle.code_theory.specs.Index.{bit}
use Rattle.code_theory.specs.Internal.{nth_clear}
use Rattle.code_theory.specs.Modular.{differ}
use Rattle.code_theory.specs.Code.{linear, symbol_at, codeword}
use Rattle.code_theory.specs.Near.{distance, Near, lee_distance}
use Rattle.code_theory.proofs.SumLaws.{sum_ext, sum_le, sum_bound, sum_first, tabulate_length, tabulate_at, tabulate_is}
use Rattle.code_theory.proofs.IndexLaws.{bit_zero, bit_suc, bit_low, skip, nth_zero, nth_low, nth_half}
use Rattle.code_theory.proofs.ModularLaws.{differ_le, differ_le_lee}

-- the coefficient of bit 0, and those of the bits above
pub linear_first : (m : ℕ) (c : ℕ → ℕ) (i : ℕ) → linear (suc m) c i ≡ c 0 * (i % 2) + linear m (λ k. c (suc k)) (i / 2)
unfolding linear
linear_first m c i = sum_first m (λ k. c k * bit k i) ∙ ap₂ (λ x y. c 0 * x + y) (bit_zero i) (sum_ext m _ _ (λ k l. ap (λ x. c (suc k) * x) (bit_suc k i)))

-- at the partner the coefficients add what they add at i, plus coefficient k
pub linear_partner : (k m : ℕ) → k < m → (c : ℕ → ℕ) (i : ℕ) → bit k i ≡ 0 → linear m c (i + 2 ^ k) ≡ linear m c i + c k
linear_partner k zero h c i z = absurd (not-suc-le-zero h)
linear_partner zero (suc m) h c i z =
    let e : i % 2 ≡ 0 = sym (bit_zero i) ∙ z in
    let e1 : (i + 1) % 2 ≡ 1 = omega arith in
    let e2 : (i + 1) / 2 ≡ i / 2 = omega arith in
    rw (linear_first m c (i + 1), linear_first m c i, e, e1, e2) (omega arith)
linear_partner (suc k) (suc m) h c i z =
    let e1 : (i + 2 ^ suc k) % 2 ≡ i % 2 = omega arith in
    let e2 : (i + 2 ^ suc k) / 2 ≡ i / 2 + 2 ^ k = omega arith in
    let ih : linear m (λ j. c (suc j)) (i / 2 + 2 ^ k) ≡ linear m (λ j. c (suc j)) (i / 2) + c (suc k) = linear_partner k m (omega arith) (λ j. c (suc j)) (i / 2) (sym (bit_suc k i) ∙ z) in
    rw (linear_first m c (i + 2 ^ suc k), linear_first m c i, e1, e2) (omega arith)

-- the coefficients from m on add nothing to an index below 2 ^ m
pub linear_low : (m n : ℕ) (c : ℕ → ℕ) (i : ℕ) → m ≤ n → i < 2 ^ m → linear n c i ≡ linear m c i
unfolding linear sum
linear_low m zero c i h l = let e : 0 ≡ m = omega arith in ap (λ z. linear z c i) e
linear_low m (suc n) c i h l = go (eq-or-lt_of_le h) (linear_low m n c i)
  where
    go : (m ≡ suc n) ⊎ (m < suc n) → (m ≤ n → i < 2 ^ m → linear n c i ≡ linear m c i) → linear n c i + c n * bit n i ≡ linear m c i
    go (inl e) ih = ap (λ z. linear z c i) (sym e)
    go (inr k) ih =
        let e : linear n c i ≡ linear m c i = ih (le_of_suc-le-suc k) l in
        let z : bit n i ≡ 0 = bit_low n i (omega (arith, pow_mono {i = m} {j = n} (le_of_suc-le-suc k))) in
        rw z (omega (arith, e))

-- coefficient m adds itself to the 2 ^ m indices after them
pub linear_high : (m : ℕ) (c : ℕ → ℕ) (i : ℕ) → i < 2 ^ m → linear (suc m) c (i + 2 ^ m) ≡ linear m c i + c m
linear_high m c i l = linear_partner m (suc m) (omega arith) c i (bit_low m i l) ∙ ap (λ x. x + c m) (linear_low m (suc m) c i (omega arith) l)

-- at the j-th index with bit k clear the other coefficients add what they add at j
pub linear_skip : (k m : ℕ) → k ≤ m → (c : ℕ → ℕ) (j : ℕ) → linear (suc m) c (nth_clear k j) ≡ linear m (λ l. c (skip k l)) j
unfolding skip
linear_skip zero m h c j =
    let e : 2 * j % 2 ≡ 0 = omega arith in
    let f : 2 * j / 2 ≡ j = omega arith in
    rw (nth_zero j, linear_first m c (2 * j), e, f) (omega arith)
linear_skip (suc k) zero h c j = absurd (not-suc-le-zero h)
linear_skip (suc k) (suc m) h c j =
    let above : ℕ → ℕ = λ l. c (suc l) in
    let ih : linear (suc m) above (nth_clear k (j / 2)) ≡ linear m (λ l. above (skip k l)) (j / 2) = linear_skip k m (omega arith) above (j / 2) in
    rw (linear_first (suc m) c (nth_clear (suc k) j), linear_first m (λ l. c (skip (suc k) l)) j, nth_low k j, nth_half k j, ih)

pub linear_ext : (m : ℕ) (c d : ℕ → ℕ) → ((k : ℕ) → k < m → c k ≡ d k) → (i : ℕ) → linear m c i ≡ linear m d i
unfolding linear
linear_ext m c d h i = sum_ext m _ _ (λ k l. ap (λ x. x * bit k i) (h k l))

-- a symbol depends only on the m + 1 symbols of the message
pub symbol_at_ext : (q m : ℕ) (s t : ℕ → ℕ) → ((k : ℕ) → k < suc m → s k ≡ t k) → (i : ℕ) → symbol_at q m s i ≡ symbol_at q m t i
unfolding symbol_at
symbol_at_ext q m s t h i = cc (h 0 (omega arith), linear_ext m _ _ (λ k l. h (suc k) (omega arith)) i)

pub symbol_at_lt : (q m : ℕ) (s : ℕ → ℕ) (i : ℕ) → 0 < q → symbol_at q m s i < q
unfolding symbol_at
symbol_at_lt q m s i h = mod-lt _ h

pub codeword_length : (q m : ℕ) (t : List ℕ) → length (codeword q m t) ≡ 2 ^ m
unfolding codeword
codeword_length q m t = tabulate_length (2 ^ m) _

pub codeword_at : (q m : ℕ) (t : List ℕ) (i : ℕ) → i < 2 ^ m → at (codeword q m t) i ≡ symbol_at q m (at t) i
unfolding codeword
codeword_at q m t i l = tabulate_at (2 ^ m) _ i l

-- a list of 2 ^ m symbols of the word is the word
pub codeword_is : (q m : ℕ) (t w : List ℕ) → length w ≡ 2 ^ m → ((i : ℕ) → i < 2 ^ m → at w i ≡ symbol_at q m (at t) i) → w ≡ codeword q m t
unfolding codeword
codeword_is q m t w e h = tabulate_is (2 ^ m) _ w e h

pub distance_ext : (q m : ℕ) (s t y z : ℕ → ℕ) → ((k : ℕ) → k < suc m → s k ≡ t k) → ((i : ℕ) → i < 2 ^ m → y i ≡ z i) → distance q m s y ≡ distance q m t z
unfolding distance
distance_ext q m s t y z h g = sum_ext (2 ^ m) _ _ (λ i l. ap₂ differ (symbol_at_ext q m s t h i) (g i l))

pub distance_le : (q m : ℕ) (s y : ℕ → ℕ) → distance q m s y ≤ 2 ^ m
unfolding distance
distance_le q m s y = omega (arith, sum_bound (2 ^ m) 1 _ (λ i l. differ_le (symbol_at q m s i) (y i)))

-- the distance is at most the Lee weight of the difference
pub distance_le_lee : (q m : ℕ) (s y : ℕ → ℕ) → 0 < q → ((i : ℕ) → i < 2 ^ m → y i < q) → distance q m s y ≤ lee_distance q m s y
unfolding distance lee_distance
distance_le_lee q m s y h below = sum_le (2 ^ m) _ _ (λ i l. differ_le_lee q _ _ h (symbol_at_lt q m s i h) (below i l))

-- LEE: a Lee weight below a quarter of the places is near
pub lee_near : (q m : ℕ) (s y : ℕ → ℕ) → 0 < q → ((i : ℕ) → i < 2 ^ m → y i < q) → 4 * lee_distance q m s y < 2 ^ m → Near q m s y
lee_near q m s y h below l = omega (arith, distance_le_lee q m s y h below)
