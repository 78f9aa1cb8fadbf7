-- Sums of units over lanes, and the tallies that they are. Assumes nothing.
use Prim.Native.Nat.{ℕ, zero, suc, ◌+◌, ◌*◌, ◌-◌, ◌/◌, ◌%◌, ◌^◌, ◌≤◌, ◌<◌}
use mathlib.Core.Path.{◌≡◌, refl, ap, ap₂, sym, ◌∙◌}
use mathlib.Core.List.{List}
use native.Mathlib.Omega.{arith}
use native.Mathlib.Nat.{div-one, pow-le-pow_right, le_of_suc-le-suc, add_assoc}
use lib.Bits.{bit_and, and_mask, and_mod, and_le_l, and_le_r}
use lib.ListN.{length}
use lib.Pow.{pow_mono}
use Rattle.std.specs.Int.{w64, to_le_bytes}
use Rattle.code_theory.specs.Sum.{sum, at}
use Rattle.code_theory.specs.Index.{if_clear}
use Rattle.code_theory.specs.Internal.{nth_clear}
use Rattle.code_theory.specs.Modular.{sub_mod, same}
use Rattle.code_theory.specs.Vote.{count, vote, votes}
use Rattle.code_theory.specs.Question.{is_alphabet}
use mathlib.Core.Bool.{true}
use Rattle.code_theory.proofs.SumLaws.{sum_ext, sum_next, sum_bound}
use Rattle.code_theory.proofs.IndexLaws.{nth_partner_lt}
use Rattle.code_theory.proofs.ModularLaws.{sub_mod_lt}
use Rattle.code_theory.proofs.QuestionLaws.{alphabet, alphabet_bounds}
use Rattle.swar_theory.specs.Internal.{digit}
use Rattle.swar_theory.proofs.DigitLaws.{digit_even, digit_odd, digit_down}
use Rattle.decode_long_tally.proofs.CounterLaws.{units_digit}
use Rattle.swar_lanes.specs.Internal.{offset, Lanes, LanesBelow, Packed, spot, Reach, BallotOf}
use Rattle.swar_lanes.proofs.SpotLaws.{block_sum, offset_sum, spot_sum}
use Rattle.decode_long_tally.specs.Internal.{difference, Pairs, Listed, LongLanes, VotesOf, PackedFrom, DifferencesOf}

-- byte i of a number, as `to_le_bytes` gives it
pub byte_digit : (d i : ℕ) → i < 8 → at (to_le_bytes w64 d) i ≡ digit 8 d i
unfolding digit
byte_digit d zero l = ap (λ z. z % 256) (sym (div-one d))
byte_digit d (suc zero) l = refl
byte_digit d (suc (suc zero)) l = refl
byte_digit d (suc (suc (suc zero))) l = refl
byte_digit d (suc (suc (suc (suc zero)))) l = refl
byte_digit d (suc (suc (suc (suc (suc zero))))) l = refl
byte_digit d (suc (suc (suc (suc (suc (suc zero)))))) l = refl
byte_digit d (suc (suc (suc (suc (suc (suc (suc zero))))))) l = refl
byte_digit d (suc (suc (suc (suc (suc (suc (suc (suc i)))))))) l = absurd (omega arith)

-- two lanes are a byte's low and high half
byte_lanes : (d i : ℕ) → i < 8 → at (to_le_bytes w64 d) i ≡ digit 4 d (2 * i) + 16 * digit 4 d (2 * i + 1)
byte_lanes d i l = omega (arith, byte_digit d i l, digit_even 4 d i, digit_odd 4 d i)

-- and so the byte is an index of the table
pub byte_lt : (d : ℕ) (s : List ℕ) (i : ℕ) → s ≡ to_le_bytes w64 d → i < 8 → LanesBelow 8 d → at s i < 128
byte_lt d s i e l b = omega (arith, ap (λ z. at z i) e, byte_lanes d i l, b (2 * i) (omega arith), b (2 * i + 1) (omega arith))

-- the rows below q are enough for lanes below q
pub listed : (q : ℕ) (u : List ℕ) (d : ℕ) → is_alphabet q ≡ true → Pairs q u → LanesBelow q d → Listed u d
listed q u d a p b = record { values = eight; each = λ s t l h. p.each _ _ (eight s l) (b t h) }
  where
    eight : LanesBelow 8 d
    eight t l = omega (arith, b t l, alphabet_bounds q (alphabet q a))

-- one byte more
pub unit_le : (v : ℕ) → v < 8 → 256 ^ v ≤ 72057594037927936
unit_le v l = pow-le-pow_right (omega arith) {i = v} {j = 7} (le_of_suc-le-suc l)

-- the units of the first n lanes
unfoldable pub lane_units : ℕ → ℕ → ℕ
lane_units d n = sum n (λ t. 256 ^ digit 4 d t)

pub units_none : (d : ℕ) → 0 ≡ lane_units d (2 * 0)
unfolding lane_units sum
units_none d = refl

pub units_next : (u : List ℕ) (d : ℕ) (s : List ℕ) (i t : ℕ) → Listed u d → s ≡ to_le_bytes w64 d → i < 8 → t ≡ lane_units d (2 * i)
    → t + at u (at s i) ≡ lane_units d (2 * (i + 1))
unfolding lane_units
units_next u d s i t p e l g =
    let n : 2 * (i + 1) ≡ 2 * i + 1 + 1 = omega arith in
    ap₂ (λ x y. x + y) g (ap (at u) (ap (λ z. at z i) e ∙ byte_lanes d i l) ∙ p.each (2 * i) (2 * i + 1) (omega arith) (omega arith))
    ∙ sym (ap (λ x. sum x (λ t. 256 ^ digit 4 d t)) n ∙ sum_next (2 * i + 1) _ ∙ ap (λ x. x + 256 ^ digit 4 d (2 * i + 1)) (sum_next (2 * i) _) ∙ add_assoc _ _ _)

lane_units_le : (d n : ℕ) → LanesBelow 8 d → n ≤ 16 → lane_units d n ≤ n * 72057594037927936
unfolding lane_units
lane_units_le d n b l = sum_bound n 72057594037927936 _ (λ i h. unit_le _ (b i (omega arith)))

pub units_fit : (u : List ℕ) (d : ℕ) (s : List ℕ) (i t : ℕ) → Listed u d → s ≡ to_le_bytes w64 d → i < 8 → t ≡ lane_units d (2 * i) → t + at u (at s i) < 18446744073709551616
units_fit u d s i t p e l g = omega (arith, units_next u d s i t p e l g, lane_units_le d (2 * (i + 1)) p.values (omega arith))

pub units_all : (d i t : ℕ) → i ≡ 8 → t ≡ lane_units d (2 * i) → LanesBelow 8 d → (t ≡ sum 16 (λ t. 256 ^ digit 4 d t)) × (t ≤ 16 * 72057594037927936)
unfolding lane_units
units_all d i t e f b =
    let g : t ≡ lane_units d 16 = f ∙ ap (λ z. lane_units d (2 * z)) e in
    (g, omega (arith, g, lane_units_le d 16 b (omega arith)))

-- A TALLY of sixteen votes a number
pub tallied_lanes : (q n : ℕ) (c : ℕ → ℕ → ℕ) (x : ℕ) → n ≤ 8 → ((j t : ℕ) → c j t < q) → x ≡ sum n (λ j. sum 16 (λ t. 256 ^ c j t))
    → (v : ℕ) → v < q → digit 8 x v ≡ sum n (λ j. sum 16 (λ t. same (c j t) v))
unfolding count if_clear
tallied_lanes q n c x short below e v l =
    ap (λ z. digit 8 z v) (e ∙ sum_ext n _ _ (λ j _. sum_ext 16 _ _ (λ t h. ap (λ z. 256 ^ z) (sym (flat j t h)))) ∙ sym (block_sum 16 n (λ i. 256 ^ c (i / 16) (i % 16))))
    ∙ units_digit q (n * 16) (λ i. c (i / 16) (i % 16)) (omega arith) (λ i h. below (i / 16) (i % 16)) v l
    ∙ block_sum 16 n (λ i. same (c (i / 16) (i % 16)) v)
    ∙ sum_ext n _ _ (λ j _. sum_ext 16 _ _ (λ t h. ap (λ z. same z v) (flat j t h)))
  where
    flat : (j t : ℕ) → t < 16 → c ((j * 16 + t) / 16) ((j * 16 + t) % 16) ≡ c j t
    flat j t h =
        let a : (j * 16 + t) / 16 ≡ j = omega arith in
        let b : (j * 16 + t) % 16 ≡ t = omega arith in
        ap₂ c a b

-- THE VOTES for coefficient k, ballot by ballot
unfoldable pub ballot_units : ℕ → ℕ → List ℕ → ℕ → ℕ
ballot_units q k w n = sum n (λ j. sum 16 (λ t. 256 ^ vote q k (at w) (spot k j t)))

-- the units that the first n ballots give, whatever the word
abbrev pub Balloted : ℕ → ℕ → ℕ → List ℕ → ℕ → ℕ → Type 0
Balloted q m k x n t = (t ≤ n * 1152921504606846976) × ((w : List ℕ) → Packed (2 ^ (m - 4)) w x → t ≡ ballot_units q k w n)

pub ballots_none : (q m k : ℕ) (x : List ℕ) → Balloted q m k x 0 0
unfolding ballot_units sum
ballots_none q m k x = (omega arith, λ w p. refl)

module _ (q m k : ℕ) (x : List ℕ) (v : LongLanes q m x) (h : k < m) where
  one_less : suc (m - 5) ≡ m - 4
  one_less = omega (arith, v.low)

  power : 2 ^ (m - 4) ≡ 2 * 2 ^ (m - 5)
  power = omega (arith, ap (λ z. 2 ^ z) one_less)

  pub few_ballots : 2 ^ (m - 5) ≤ 8
  few_ballots = pow_mono {i = m - 5} {j = 3} (omega (arith, v.high))

  far_partner : (j : ℕ) → j < 2 ^ (m - 5) → 4 ≤ k → nth_clear (k - 4) j + 2 ^ (k - 4) < 2 ^ (m - 4)
  far_partner j l g = omega (arith, nth_partner_lt (k - 4) (m - 5) j (omega (arith, v.low)) l, ap (λ z. 2 ^ z) one_less)

  pub reach : (j : ℕ) → j < 2 ^ (m - 5) → Reach q k j x
  reach j l = record {
    alphabet = v.alphabet;
    size = v.size;
    symbols = v.symbols;
    few = omega (arith, few_ballots);
    coefficient = omega (arith, v.high);
    partner = λ g. omega (arith, far_partner j l g, power, few_ballots);
  }

  pub ballots_next : (j t d u : ℕ) → j < 2 ^ (m - 5) → Balloted q m k x j t → BallotOf q k j x d → u ≡ sum 16 (λ t. 256 ^ digit 4 d t) → u ≤ 16 * 72057594037927936
      → Balloted q m k x (j + 1) (t + u)
  unfolding ballot_units
  ballots_next j t d u l (b, e) s f g = (
    omega arith,
    λ w p.
        ap₂ (λ y z. y + z) (e w p) (f ∙ sum_ext 16 _ _ (λ i n. ap (λ z. 256 ^ z) (s w (2 ^ (m - 4)) p (λ c. omega (arith, power)) (far_partner j l) i n)))
        ∙ sym (sum_next j (λ j. sum 16 (λ t. 256 ^ vote q k (at w) (spot k j t)))),
  )

  pub ballots_all : (j t : ℕ) → j ≡ 2 ^ (m - 5) → Balloted q m k x j t → VotesOf q m k x t
  unfolding ballot_units votes count vote
  ballots_all j t e (b, f) w p c l =
      tallied_lanes q (2 ^ (m - 5)) (λ j t. vote q k (at w) (spot k j t)) t few_ballots
      (λ j t. sub_mod_lt q _ _ (omega (arith, alphabet_bounds q (alphabet q v.alphabet)))) (f w p ∙ ap (ballot_units q k w) e) c l
      ∙ spot_sum k m h v.low (λ i. same (vote q k (at w) i) c)

-- THE DIFFERENCES of two words, number by number
unfoldable pub difference_units : ℕ → ℕ → List ℕ → List ℕ → ℕ → ℕ
difference_units q f w c n = sum n (λ j. sum 16 (λ t. 256 ^ difference q w c (16 * (f + j) + offset t)))

-- the units of the first n numbers
abbrev pub Differing : ℕ → List ℕ → List ℕ → ℕ → ℕ → Type 0
Differing q x y n t =
    (t ≤ n * 1152921504606846976) × ((w c : List ℕ) (f : ℕ) → PackedFrom f w x → PackedFrom f c y → t ≡ difference_units q f w c n)

pub differences_none : (q : ℕ) (x y : List ℕ) → Differing q x y 0 0
unfolding difference_units sum
differences_none q x y = (omega arith, λ w c f p r. refl)

pub differences_next : (q : ℕ) (x y : List ℕ) (n t a b d u : ℕ) → n < length x → n < length y → Differing q x y n t → a ≡ at x n → b ≡ at y n
    → Lanes d (λ t. sub_mod q (digit 4 a t) (digit 4 b t)) → u ≡ sum 16 (λ t. 256 ^ digit 4 d t) → u ≤ 16 * 72057594037927936
    → Differing q x y (n + 1) (t + u)
unfolding difference_units difference
differences_next q x y n t a b d u l k (few, e) ea eb s g h = (
  omega arith,
  λ w c f p r.
      ap₂ (λ a b. a + b) (e w c f p r) (g ∙ sum_ext 16 _ _ (λ i j. ap (λ a. 256 ^ a) (s i j ∙ ap₂ (sub_mod q) (ap (λ z. digit 4 z i) ea ∙ p n l i j) (ap (λ z. digit 4 z i) eb ∙ r n k i j))))
      ∙ sym (sum_next n (λ j. sum 16 (λ t. 256 ^ difference q w c (16 * (f + j) + offset t)))),
)

pub differences_all : (q : ℕ) (x y : List ℕ) (i t : ℕ) → i ≡ length x → is_alphabet q ≡ true → length x ≤ 8 → Differing q x y i t → DifferencesOf q x y t
unfolding difference_units difference count if_clear
differences_all q x y i t h a few (b, e) w c f p r v l =
    tallied_lanes q (length x) (λ j t. difference q w c (16 * (f + j) + offset t)) t few
    (λ j t. sub_mod_lt q _ _ (omega (arith, alphabet_bounds q (alphabet q a)))) (e w c f p r ∙ ap (difference_units q f w c) h) v l
    ∙ sum_ext (length x) _ _ (λ j _. offset_sum (λ i. same (difference q w c (16 * (f + j) + i)) v)
    ∙ sum_ext 16 _ _ (λ i _. ap (λ z. same (difference q w c z) v) (places j i)))
    ∙ sym (block_sum 16 (length x) (λ i. same (difference q w c (f * 16 + i)) v))
  where
    places : (j i : ℕ) → 16 * (f + j) + i ≡ f * 16 + (j * 16 + i)
    places j i = omega arith
