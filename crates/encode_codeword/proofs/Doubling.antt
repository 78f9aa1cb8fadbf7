-- The places that a doubling fills, and the words that it makes. Assumes nothing.
use Prim.Native.Nat.{ℕ, zero, suc, ◌+◌, ◌*◌, ◌-◌, ◌%◌, ◌^◌, ◌≤◌, ◌<◌}
use mathlib.Core.Path.{◌≡◌, refl, ap, sym, ◌∙◌, subst}
use mathlib.Core.Bool.{true}
use mathlib.Core.List.{List, [], ◌∷◌, ◌++◌}
use native.Mathlib.Numerals.{add-one}
use native.Mathlib.Decide.{dec_lt}
use native.Mathlib.Omega.{arith}
use native.Mathlib.Nat.{mod-add-mod, add_assoc, pow-succ', one-mul, add_comm}
use lib.ListN.{length, set, drop, length-append, get_or-append}
use lib.Dec.{lit<}
use lib.Seq.{get_or-set_same, get_or-set_other}
use lib.Pow.{pow_mono, pow-add, shl_exact}
use Rattle.std.proofs.Math.Seq.{get_or-append_right}
use Rattle.std.proofs.lemmas.List.{get_or-take, get_or-drop}
use borrow.Rule.Slice.PartMut.{mid_of}
use borrow.Author.Count.{below_more}
use Rattle.code_theory.specs.Sum.{sum, at}
use Rattle.code_theory.specs.Index.{bit}
use Rattle.swar_theory.specs.Internal.{digit}
use Rattle.swar_bytes.specs.Internal.{Put}
use Rattle.code_theory.specs.Code.{linear, symbol_at}
use Rattle.code_theory.specs.Question.{is_alphabet}
use Rattle.code_theory.proofs.QuestionLaws.{alphabet, alphabet_bounds}
use Rattle.code_theory.proofs.CodeLaws.{linear_low, linear_high, symbol_at_lt, symbol_at_ext}
use Rattle.encode_codeword.specs.Internal.{Fits, Coded, Written, Small, Doubled, unreduced}

-- the places of v below i are those of low, each plus a modulo q, and the others are those of u
pub record Filled (q a : ℕ) (low u v : List ℕ) (i : ℕ) : Type 0 where
  pub each : (j : ℕ) → j < i → at v j ≡ (at low j + a) % q
  pub rest : (j : ℕ) → i ≤ j → at v j ≡ at u j

-- place i is filled
pub filled_next : (q a : ℕ) (low u v : List ℕ) (i x : ℕ) → i < length v → Filled q a low u v i → x ≡ (at low i + a) % q → Filled q a low u (set v i x) (i + 1)
filled_next q a low u v i x room f e = record {
  each = below_more (λ j. at (set v i x) j ≡ (at low j + a) % q) i
      (λ j h. get_or-set_other v i j x 0 (λ z. absurd (omega (arith, z))) ∙ f.each j h)
      (get_or-set_same v i x 0 room ∙ e);
  rest = λ j h. get_or-set_other v i j x 0 (λ z. absurd (omega (arith, z))) ∙ f.rest j (omega arith);
}

-- the eight places from i on are filled with the digits of x
pub filled_eight : (q a : ℕ) (low u v w : List ℕ) (i n x : ℕ) → n ≡ i + 8 → Filled q a low u v i → ((l : ℕ) → l < 8 → digit 8 x l ≡ (at low (i + l) + a) % q)
    → Put 8 x i v w → Filled q a low u w n
filled_eight q a low u v w i n x g f e t = record {
  each = λ j h. place j (omega (arith, g)) (dec_lt j i);
  rest = λ j h. t.above j (omega (arith, g)) ∙ f.rest j (omega (arith, g));
}
  where
    place : (j : ℕ) → j < i + 8 → Dec (j < i) → at w j ≡ (at low j + a) % q
    place j h (yes k) = t.below j k ∙ f.each j k
    place j h (no k) =
        let y : i + (j - i) ≡ j = omega arith in
        ap (at w) (sym y) ∙ t.new (j - i) (omega arith) ∙ e (j - i) (omega arith) ∙ ap (λ z. (at low z + a) % q) y

-- the upper half, filled to its place len, is the doubling of the lower half
pub doubled_halves : (q len a i : ℕ) (w low u v : List ℕ) → w ≡ low ++ u → length low ≡ len → length v ≡ length u → i ≡ len → Filled q a low u v i
    → Doubled q len a w (low ++ v)
doubled_halves q len a i w low u v e size same full f = rw e record {
  size = omega (arith, length-append low v, length-append low u, same);
  low = λ j h. get_or-append low v 0 j (omega (arith, size)) ∙ sym (get_or-append low u 0 j (omega (arith, size)));
  high = λ j h.
      get_or-append_right low v (j + len) 0 (omega (arith, size)) ∙ ap (at v) (omega (arith, size)) ∙ f.each j (omega (arith, full))
      ∙ ap (λ x. (x + a) % q) (sym (get_or-append low u 0 j (omega (arith, size))));
  rest = λ j h.
      get_or-append_right low v j 0 (omega (arith, size)) ∙ f.rest (j - length low) (omega (arith, size, full))
      ∙ sym (get_or-append_right low u j 0 (omega (arith, size)));
}

-- a doubling by a number is one by any other that is equal to it
pub doubled_by : (q len a b : ℕ) (w v : List ℕ) → a ≡ b → Doubled q len a w v → Doubled q len b w v
doubled_by q len a b w v e t = subst (λ x. Doubled q len x w v) e t

module _ (q k : ℕ) (s w v : List ℕ) (d : Coded q k s w) (t : Doubled q (2 ^ k) (at s (suc k)) w v) where
  low_half : (i : ℕ) → i < 2 ^ k → at v i ≡ symbol_at q (suc k) (at s) i
  unfolding symbol_at
  low_half i l = t.low i l ∙ d.each i l ∙ ap (λ x. (at s 0 + x) % q) (sym (linear_low k (suc k) (λ j. at s (suc j)) i (omega arith) l))

  high_half : (i : ℕ) → i < 2 ^ k → at v (i + 2 ^ k) ≡ symbol_at q (suc k) (at s) (i + 2 ^ k)
  unfolding symbol_at
  high_half i l =
      t.high i l ∙ ap (λ x. (x + at s (suc k)) % q) (d.each i l) ∙ mod-add-mod (at s 0 + linear k (λ j. at s (suc j)) i) q (at s (suc k))
      ∙ ap (λ x. x % q) (add_assoc (at s 0) _ _ ∙ ap (λ x. at s 0 + x) (sym (linear_high k (λ j. at s (suc j)) i l)))

  -- a doubled word of k coefficients is the word of k + 1
  pub coded_next : Coded q (suc k) s v
  coded_next = record { each = λ i l. half i l (dec_lt i (2 ^ k)) }
    where
      half : (i : ℕ) → i < 2 ^ suc k → Dec (i < 2 ^ k) → at v i ≡ symbol_at q (suc k) (at s) i
      half i l (yes h) = low_half i h
      half i l (no h) =
          let e : i ≡ (i - 2 ^ k) + 2 ^ k = omega arith in
          ap (at v) e ∙ high_half (i - 2 ^ k) (omega (arith, pow-succ' 2 k)) ∙ ap (symbol_at q (suc k) (at s)) (sym e)

pub coded_below : (q k : ℕ) (s w : List ℕ) → 0 < q → Coded q k s w → (i : ℕ) → i < 2 ^ k → at w i < q
coded_below q k s w h d i l = rw (d.each i l) (symbol_at_lt q k (at s) i h)

-- the length of the word so far, as code shifts it
pub length_so_far : (k : ℕ) → k < 8 → (1 * 2 ^ k) % 18446744073709551616 ≡ 2 ^ k
length_so_far k h = shl_exact {a = 1} 1 k 64 (lit< tt) (omega arith) ∙ one-mul (2 ^ k)

pub eights : (k : ℕ) → 3 ≤ k → 2 ^ k % 8 ≡ 0
eights k h = let e : 3 + (k - 3) ≡ k = omega arith in omega (arith, pow-add 2 3 (k - 3), ap (λ x. 2 ^ x) e)

-- where the word of k of the m coefficients is written: what its doubling requires and ensures
module _ (q m k len : ℕ) (s w v : List ℕ) (fits : Fits q m s w) (t : Written q k s w v) (more : k < m) (e : len ≡ 2 ^ k) where
  twice : 2 ^ (k + 1) ≡ 2 * 2 ^ k
  twice = ap (λ x. 2 ^ x) (add-one k) ∙ pow-succ' 2 k

  pub grow_asks : (is_alphabet q ≡ true) × (at s (k + 1) < q) × (2 * len ≤ length v) × ((i : ℕ) → i < len → at v i < q)
  grow_asks =
      let b : (2 ≤ q) × (q ≤ 8) = alphabet_bounds q (alphabet q fits.alphabet) in (
        fits.alphabet,
        fits.below (k + 1) (omega arith),
        omega (arith, e, twice, fits.room, t.size, pow_mono {i = k + 1} {j = m} (omega arith)),
        λ i l. coded_below q k s v (omega arith) t.coded i (omega (arith, e)),
      )

  pub grow_gives : (u : List ℕ) → Doubled q len (at s (k + 1)) v u → Written q (k + 1) s w u
  grow_gives u d = record {
    size = d.size ∙ t.size;
    coded = rw add-one (coded_next q k s v u t.coded (rw (← e, ← add-one k) d));
    rest = λ i h. d.rest i (omega (arith, e, twice, h)) ∙ t.rest i (omega (arith, twice, h));
  }

-- the word of j of the m coefficients fits where the whole word does
pub fits_less : (q m j : ℕ) (s w v : List ℕ) → 2 ≤ j → j ≤ m → length v ≡ length w → Fits q m s w → Fits q j s v
fits_less q m j s w v t l e h = record {
  alphabet = h.alphabet;
  low = t;
  high = omega (arith, h.high);
  size = omega (arith, h.size);
  below = λ k i. h.below k (omega arith);
  room = omega (arith, h.room, pow_mono {i = j} {j = m} l);
}

pub fits_small : (q m : ℕ) (s w : List ℕ) → Fits q m s w → Small (suc m) s
fits_small q m s w h =
    record { size = h.size; below = λ k l. omega (arith, h.below k l, alphabet_bounds q (alphabet q h.alphabet)) }

-- the first 64 places of v are those of the word of six coefficients, computed from the symbols that were read
pub six_written : (q i : ℕ) (s t w low u v : List ℕ) → w ≡ low ++ u → length low ≡ 64 → length v ≡ length low → 64 ≤ i
    → ((k : ℕ) → k < 7 → at t k ≡ at s k) → ((j : ℕ) → j < i → at v j ≡ unreduced 6 (at t) j % q) → Written q 6 s w (v ++ u)
unfolding symbol_at unreduced
six_written q i s t w low u v e size same full read each = rw e record {
  size = omega (arith, length-append v u, length-append low u, same);
  coded = record {
    each = λ j h. get_or-append v u 0 j (omega (arith, size, same)) ∙ each j (omega (arith, full)) ∙ symbol_at_ext q 6 (at t) (at s) (λ k l. read k l) j;
  };
  rest = λ j h. get_or-append_right v u j 0 (omega (arith, size, same)) ∙ ap (λ n. at u (j - n)) same ∙ sym (get_or-append_right low u j 0 (omega (arith, size)));
}

-- the sum at an index, coefficient after coefficient: the code goes through the symbols from place 1 on
pub coefficient : (s : List ℕ) (k : ℕ) → k < 6 → at (mid_of 1 6 s) k ≡ at s (suc k)
coefficient s k h = get_or-take 6 (drop 1 s) k 0 h ∙ get_or-drop 1 s k 0 ∙ ap (at s) (add_comm 1 k ∙ add-one k)

pub unreduced_none : (s : ℕ → ℕ) (i : ℕ) → s 0 ≡ unreduced 0 s i
unfolding unreduced linear sum
unreduced_none s i = omega arith

pub unreduced_next : (s : List ℕ) (k i y x : ℕ) → k < 6 → y ≡ unreduced k (at s) i → x ≡ at (mid_of 1 6 s) k * bit k i → y + x ≡ unreduced (k + 1) (at s) i
unfolding unreduced linear sum
unreduced_next s k i y x h e f = rw add-one (omega (arith, e, f ∙ ap (λ z. z * bit k i) (coefficient s k h)))

-- the seven symbols of six coefficients, read one by one
abbrev pub seven_of : List ℕ → List ℕ
seven_of l = at l 0 ∷ at l 1 ∷ at l 2 ∷ at l 3 ∷ at l 4 ∷ at l 5 ∷ at l 6 ∷ []

pub seven_read : (l : List ℕ) (k : ℕ) → k < 7 → at (seven_of l) k ≡ at l k
seven_read l zero h = refl
seven_read l (suc zero) h = refl
seven_read l (suc (suc zero)) h = refl
seven_read l (suc (suc (suc zero))) h = refl
seven_read l (suc (suc (suc (suc zero)))) h = refl
seven_read l (suc (suc (suc (suc (suc zero))))) h = refl
seven_read l (suc (suc (suc (suc (suc (suc zero)))))) h = refl
seven_read l (suc (suc (suc (suc (suc (suc (suc k))))))) h = absurd (omega arith)
