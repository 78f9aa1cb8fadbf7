-- A near message has most of the votes that are counted, so the candidate is that message. Assumes nothing.
use Prim.Native.Nat.{ℕ, zero, suc, ◌+◌, ◌*◌, ◌-◌, ◌/◌, ◌%◌, ◌^◌, ◌≤◌, ◌<◌}
use mathlib.Core.Path.{◌≡◌, refl, ap, ap₂, sym, ◌∙◌}
use mathlib.Core.Bool.{true}
use mathlib.Core.List.{List}
use native.Mathlib.Omega.{arith}
use native.Mathlib.Nat.{zero-add, add_comm}
use native.Mathlib.Decide.{dec_lt}
use lib.ListN.{length}
use Rattle.code_theory.specs.Sum.{sum, at}
use Rattle.code_theory.specs.Index.{bit, if_clear}
use Rattle.code_theory.specs.Modular.{sub_mod, same}
use Rattle.code_theory.specs.Code.{linear, Below}
use Rattle.code_theory.specs.Near.{distance, Near}
use Rattle.code_theory.specs.Vote.{count, vote, votes, residue, residues, tally}
use Rattle.code_theory.specs.Question.{is_alphabet}
use Rattle.code_theory.proofs.IndexLaws.{clear_halves, clear_first}
use Rattle.code_theory.proofs.SumLaws.{sum_split, sum_bound}
use Rattle.code_theory.proofs.ModularLaws.{same_le, sub_mod_mod, sub_mod_is}
use Rattle.code_theory.proofs.CodeLaws.{linear_low}
use Rattle.code_theory.proofs.QuestionLaws.{alphabet_positive}
use Rattle.code_theory.proofs.VoteLaws.{tally_own, residues_exact}
use Rattle.swar_theory.specs.Internal.{digit}
use Rattle.swar_lanes.specs.Internal.{offset, lane_of, place_of, Lanes, LanesBelow, Held, VotesIn}
use Rattle.swar_lanes.proofs.LaneLaws.{lane_lt, lane_place}
use Rattle.decode_short_errors.specs.Internal.{plain, SymbolsBelow}
use Rattle.swar_majority.specs.Internal.{three_of, seven_of, fifteen_of, Most}
use Rattle.decode_short_candidate.specs.Internal.{Rest, message, CandidateOf, CandidateOfBoth}
use Rattle.decode_short_candidate.proofs.LaneVotes.{held_at, symbol_below, vote_at_lem, open_of, all_of, open_is, all_is}
use Rattle.decode_short_candidate.proofs.LaneVotes.{open_4_0, open_4_1, open_8_0, open_8_1, open_8_2, open_16_0, open_16_1, open_16_2, open_16_3, all_8, all_halves, all_first}

-- `plain` is the word of the coefficients of s, where the coefficients are equal
plain_3 : (q c0 c1 c2 : ℕ) (s : ℕ → ℕ) → c0 ≡ s 1 → c1 ≡ s 2 → c2 ≡ s 3 → (i : ℕ) → plain q (message 0 c0 c1 c2 0 0) i ≡ linear 3 (λ k. s (suc k)) i % q
unfolding plain linear sum message
plain_3 q c0 c1 c2 s e0 e1 e2 i =
    let e : s 1 * bit 0 i + s 2 * bit 1 i + s 3 * bit 2 i + 0 * bit 3 i ≡ 0 + s 1 * bit 0 i + s 2 * bit 1 i + s 3 * bit 2 i = omega arith in
    rw (e0, e1, e2) (ap (λ z. z % q) e)

plain_4 : (q c0 c1 c2 c3 : ℕ) (s : ℕ → ℕ) → c0 ≡ s 1 → c1 ≡ s 2 → c2 ≡ s 3 → c3 ≡ s 4 → (i : ℕ) → plain q (message 0 c0 c1 c2 c3 0) i ≡ linear 4 (λ k. s (suc k)) i % q
unfolding plain linear sum message
plain_4 q c0 c1 c2 c3 s e0 e1 e2 e3 i =
    let e : s 1 * bit 0 i + s 2 * bit 1 i + s 3 * bit 2 i + s 4 * bit 3 i ≡ 0 + s 1 * bit 0 i + s 2 * bit 1 i + s 3 * bit 2 i + s 4 * bit 3 i = omega arith in
    rw (e0, e1, e2, e3) (ap (λ z. z % q) e)

-- the lane of place j has the vote of place j for the constant
residue_at : (q m x : ℕ) (z : List ℕ) (d : ℕ) (w : List ℕ) (s : ℕ → ℕ) → Rest q x z d → Held w 0 x
    → ((i : ℕ) → i < 16 → plain q z i ≡ linear m (λ k. s (suc k)) i % q) → (j : ℕ) → j < 16 → place_of d j ≡ residue q m s (at w) j
unfolding residue place_of
residue_at q m x z d w s left held e j h =
    left (lane_of j) (lane_lt j h)
    ∙ ap₂ (sub_mod q) (held_at w 0 x held j h ∙ ap (at w) (zero-add j)) (ap (plain q z) (lane_place j h) ∙ e j h)
    ∙ sub_mod_mod q (at w j) (linear m (λ k. s (suc k)) j)

-- for coefficient 4 the vote of a place is a lane of y minus the same lane of x
across_at : (q x y d : ℕ) (w : List ℕ) → Held w 0 x → Held w 16 y → Lanes d (λ t. sub_mod q (digit 4 y t) (digit 4 x t))
    → (j : ℕ) → j < 16 → place_of d j ≡ vote q 4 (at w) j
unfolding vote place_of
across_at q x y d w held held' e j h =
    e (lane_of j) (lane_lt j h) ∙ ap₂ (sub_mod q) (held_at w 16 y held' j h ∙ ap (at w) (add_comm 16 j)) (held_at w 0 x held j h ∙ ap (at w) (zero-add j))

-- the votes for the constant are right at all places but the wrong ones
exactly : (q m : ℕ) (s y : ℕ → ℕ) → 0 < q → s 0 < q → ((i : ℕ) → i < 2 ^ m → y i < q) → sum (2 ^ m) (λ i. same (residue q m s y i) (s 0)) + distance q m s y ≡ 2 ^ m
unfolding residues count if_clear
exactly q m s y hq hs hy = residues_exact q m s y hq hs hy

-- A MESSAGE s, and a word w whose first places x holds: the votes for the symbols of s and the distance
module _ (q m x : ℕ) (al : is_alphabet q ≡ true) (s : ℕ → ℕ) (w : List ℕ) (hs : Below q m s) (held : Held w 0 x) where
  first_vote : (k d : ℕ) → k < 4 → VotesIn q k x d → (j : ℕ) → j < 16 → bit k j ≡ 0 → place_of d j ≡ vote q k (at w) j
  first_vote k d h e j l z = vote_at_lem q k x d w 0 h e held j l z ∙ ap (vote q k (at w)) (zero-add j)

  own : (k : ℕ) → k < m → 2 ^ m ≤ 2 * (sum (2 ^ m) (λ i. if_clear (bit k i) (same (vote q k (at w) i) (s (suc k)))) + distance q m s (at w))
  unfolding tally votes count
  own k l = tally_own q m s (at w) (alphabet_positive q al) (suc k) (omega arith) (hs (suc k) (omega arith))

  -- the votes for coefficient k, up to 16 places
  own_open : (k d : ℕ) → k < 4 → k < m → 2 ^ m ≤ 16 → VotesIn q k x d → 2 ^ m ≤ 2 * (open_of (2 ^ m) k d (s (suc k)) + distance q m s (at w))
  own_open k d h l n e = omega (arith, own k l, open_is (2 ^ m) k d (vote q k (at w)) n (first_vote k d h e) (s (suc k)))

  first_below : LanesBelow q x → (i : ℕ) → i < 16 → at w i < q
  first_below b i h = omega (arith, symbol_below q w 0 x held b i h, ap (at w) (zero-add i))

  -- the votes for the constant, up to 16 places
  own_all : (z : List ℕ) (d : ℕ) → LanesBelow q x → 2 ^ m ≤ 16 → Rest q x z d
      → ((i : ℕ) → plain q z i ≡ linear m (λ k. s (suc k)) i % q) → all_of (2 ^ m) d (s 0) + distance q m s (at w) ≡ 2 ^ m
  own_all z d b n left e =
      ap (λ z. z + distance q m s (at w)) (all_is (2 ^ m) d (residue q m s (at w)) n (residue_at q m x z d w s left held (λ i h. e i)) (s 0))
      ∙ exactly q m s (at w) (alphabet_positive q al) (hs 0 (omega arith)) (λ i h. first_below b i (omega (arith, h, n)))

  module _ (y : ℕ) (held' : Held w 16 y) where
    -- the votes for coefficient k, below 4, of 32 places
    own_both : (k d e : ℕ) → k < 4 → m ≡ 5 → VotesIn q k x d → VotesIn q k y e
        → 32 ≤ 2 * (open_of 16 k d (s (suc k)) + open_of 16 k e (s (suc k)) + distance q m s (at w))
    own_both k d e h five f g =
        omega (
          arith,
          own k (omega arith),
          ap (λ z. sum (2 ^ z) (λ i. if_clear (bit k i) (same (vote q k (at w) i) (s (suc k))))) five,
          ap (λ z. 2 ^ z) five,
          clear_halves k 4 h (λ i. same (vote q k (at w) i) (s (suc k))),
          open_is 16 k d (vote q k (at w)) (omega arith) (first_vote k d h f) (s (suc k)),
          open_is 16 k e (λ j. vote q k (at w) (16 + j)) (omega arith) (vote_at_lem q k y e w 16 h g held') (s (suc k)),
        )

    -- the votes for the last coefficient of 32 places
    own_last : (d : ℕ) → m ≡ 5 → Lanes d (λ t. sub_mod q (digit 4 y t) (digit 4 x t)) → 32 ≤ 2 * (all_of 16 d (s 5) + distance q m s (at w))
    own_last d five e =
        omega (
          arith,
          own 4 (omega arith),
          ap (λ z. sum (2 ^ z) (λ i. if_clear (bit 4 i) (same (vote q 4 (at w) i) (s 5)))) five,
          ap (λ z. 2 ^ z) five,
          clear_first 4 (λ i. same (vote q 4 (at w) i) (s 5)),
          all_is 16 d (vote q 4 (at w)) (omega arith) across (s 5),
        )
      where
        across : (j : ℕ) → j < 16 → place_of d j ≡ vote q 4 (at w) j
        across j h = across_at q x y d w held held' e j h

    -- the votes for the constant of the first sixteen of 32 places
    own_first : (z : List ℕ) (d : ℕ) → m ≡ 5 → LanesBelow q x → LanesBelow q y → Rest q x z d
        → ((i : ℕ) → i < 16 → plain q z i ≡ linear m (λ k. s (suc k)) i % q) → 16 ≤ all_of 16 d (s 0) + distance q m s (at w)
    own_first z d five b b' left e =
        omega (
          arith,
          exact,
          ap (λ z. 2 ^ z) five,
          ap (λ z. sum (2 ^ z) (λ i. same (residue q m s (at w) i) (s 0))) five,
          sum_split 16 16 (λ i. same (residue q m s (at w) i) (s 0)),
          sum_bound 16 1 (λ i. same (residue q m s (at w) (16 + i)) (s 0)) (λ i h. same_le (residue q m s (at w) (16 + i)) (s 0)),
          all_is 16 d (residue q m s (at w)) (omega arith) (residue_at q m x z d w s left held e) (s 0),
        )
      where
        below : (i : ℕ) → i < 2 ^ m → at w i < q
        below i h = go (dec_lt i 16)
          where
            go : Dec (i < 16) → at w i < q
            go (yes l) = first_below b i l
            go (no l) =
                let r : i - 16 < 16 = omega (arith, h, ap (λ z. 2 ^ z) five) in
                let p : 16 + (i - 16) ≡ i = omega arith in
                omega (arith, symbol_below q w 16 y held' b' (i - 16) r, ap (at w) p)

        exact : sum (2 ^ m) (λ i. same (residue q m s (at w) i) (s 0)) + distance q m s (at w) ≡ 2 ^ m
        exact = exactly q m s (at w) (alphabet_positive q al) (hs 0 (omega arith)) below

six : (a c0 c1 c2 c3 c4 : ℕ) → length (message a c0 c1 c2 c3 c4) ≡ 6
unfolding message
six a c0 c1 c2 c3 c4 = refl

-- every symbol of a candidate is below q
pub below_6 : (q a c0 c1 c2 c3 c4 : ℕ) → a < q → c0 < q → c1 < q → c2 < q → c3 < q → c4 < q → SymbolsBelow q (message a c0 c1 c2 c3 c4)
unfolding message
below_6 q a c0 c1 c2 c3 c4 ha h0 h1 h2 h3 h4 zero l = ha
below_6 q a c0 c1 c2 c3 c4 ha h0 h1 h2 h3 h4 (suc zero) l = h0
below_6 q a c0 c1 c2 c3 c4 ha h0 h1 h2 h3 h4 (suc (suc zero)) l = h1
below_6 q a c0 c1 c2 c3 c4 ha h0 h1 h2 h3 h4 (suc (suc (suc zero))) l = h2
below_6 q a c0 c1 c2 c3 c4 ha h0 h1 h2 h3 h4 (suc (suc (suc (suc zero)))) l = h3
below_6 q a c0 c1 c2 c3 c4 ha h0 h1 h2 h3 h4 (suc (suc (suc (suc (suc zero))))) l = h4
below_6 q a c0 c1 c2 c3 c4 ha h0 h1 h2 h3 h4 (suc (suc (suc (suc (suc (suc k)))))) l = absurd (omega arith)

-- 4 PLACES: a near message has every vote that is counted
module _ (q x : ℕ) (al : is_alphabet q ≡ true) (s : ℕ → ℕ) (w : List ℕ) (hs : Below q 2 s) (held : Held w 0 x) (near : Near q 2 s (at w)) where
  most_4_0 : (d : ℕ) → VotesIn q 0 x d → 1 ≤ same (digit 4 d 0) (s 1)
  most_4_0 d e = omega (arith, near, own_open q 2 x al s w hs held 0 d (omega arith) (omega arith) (omega arith) e, open_4_0 d (s 1), same_le (digit 4 d 4) (s 1))

  most_4_1 : (d : ℕ) → VotesIn q 1 x d → 1 ≤ same (digit 4 d 0) (s 2)
  most_4_1 d e = omega (arith, near, own_open q 2 x al s w hs held 1 d (omega arith) (omega arith) (omega arith) e, open_4_1 d (s 2), same_le (digit 4 d 2) (s 2))

  -- the vote of place 0 for the constant is its symbol
  first_residue : LanesBelow q x → residue q 2 s (at w) 0 ≡ digit 4 x 0
  unfolding residue linear sum bit offset
  first_residue b =
      let e : digit 4 x 0 ≡ at w 0 = held 0 (omega arith) in
      let z : digit 4 x 0 + linear 2 (λ k. s (suc k)) 0 ≡ at w 0 = omega (arith, e) in
      sub_mod_is q (at w 0) (linear 2 (λ k. s (suc k)) 0) (digit 4 x 0) (alphabet_positive q al) (b 0 (omega arith)) (ap (λ v. v % q) z)

  most_4 : LanesBelow q x → 1 ≤ same (digit 4 x 0) (s 0)
  unfolding sum
  most_4 b =
      omega (
        arith,
        near,
        exactly q 2 s (at w) (alphabet_positive q al) (hs 0 (omega arith)) (λ i h. first_below q 2 x al s w hs held b i (omega (arith, h))),
        ap (λ z. same z (s 0)) (first_residue b),
        same_le (residue q 2 s (at w) 1) (s 0),
        same_le (residue q 2 s (at w) 2) (s 0),
        same_le (residue q 2 s (at w) 3) (s 0),
      )

-- 8 PLACES: a near message has most of the votes that are counted
module _ (q x : ℕ) (al : is_alphabet q ≡ true) (s : ℕ → ℕ) (w : List ℕ) (hs : Below q 3 s) (held : Held w 0 x) (near : Near q 3 s (at w)) where
  most_8_0 : (d : ℕ) → VotesIn q 0 x d → 2 ≤ three_of d 4 8 (s 1)
  most_8_0 d e = omega (arith, near, own_open q 3 x al s w hs held 0 d (omega arith) (omega arith) (omega arith) e, open_8_0 d (s 1), same_le (digit 4 d 12) (s 1))

  most_8_1 : (d : ℕ) → VotesIn q 1 x d → 2 ≤ three_of d 2 8 (s 2)
  most_8_1 d e = omega (arith, near, own_open q 3 x al s w hs held 1 d (omega arith) (omega arith) (omega arith) e, open_8_1 d (s 2), same_le (digit 4 d 10) (s 2))

  most_8_2 : (d : ℕ) → VotesIn q 2 x d → 2 ≤ three_of d 2 4 (s 3)
  most_8_2 d e = omega (arith, near, own_open q 3 x al s w hs held 2 d (omega arith) (omega arith) (omega arith) e, open_8_2 d (s 3), same_le (digit 4 d 6) (s 3))

  most_8 : (c0 c1 c2 d : ℕ) → LanesBelow q x → c0 ≡ s 1 → c1 ≡ s 2 → c2 ≡ s 3 → Rest q x (message 0 c0 c1 c2 0 0) d → 2 ≤ three_of d 2 4 (s 0)
  most_8 c0 c1 c2 d b e0 e1 e2 left = omega (arith, near, own_all q 3 x al s w hs held (message 0 c0 c1 c2 0 0) d b (omega arith) left (plain_3 q c0 c1 c2 s e0 e1 e2), all_8 d (s 0))

-- 16 PLACES: a near message has most of the votes that are counted
module _ (q x : ℕ) (al : is_alphabet q ≡ true) (s : ℕ → ℕ) (w : List ℕ) (hs : Below q 4 s) (held : Held w 0 x) (near : Near q 4 s (at w)) where
  most_16_0 : (d : ℕ) → VotesIn q 0 x d → 4 ≤ seven_of d 4 8 1 (s 1)
  most_16_0 d e = omega (arith, near, own_open q 4 x al s w hs held 0 d (omega arith) (omega arith) (omega arith) e, open_16_0 d (s 1), same_le (digit 4 d 13) (s 1))

  most_16_1 : (d : ℕ) → VotesIn q 1 x d → 4 ≤ seven_of d 2 8 1 (s 2)
  most_16_1 d e = omega (arith, near, own_open q 4 x al s w hs held 1 d (omega arith) (omega arith) (omega arith) e, open_16_1 d (s 2), same_le (digit 4 d 11) (s 2))

  most_16_2 : (d : ℕ) → VotesIn q 2 x d → 4 ≤ seven_of d 2 4 1 (s 3)
  most_16_2 d e = omega (arith, near, own_open q 4 x al s w hs held 2 d (omega arith) (omega arith) (omega arith) e, open_16_2 d (s 3), same_le (digit 4 d 7) (s 3))

  most_16_3 : (d : ℕ) → VotesIn q 3 x d → 4 ≤ seven_of d 2 4 8 (s 4)
  most_16_3 d e = omega (arith, near, own_open q 4 x al s w hs held 3 d (omega arith) (omega arith) (omega arith) e, open_16_3 d (s 4), same_le (digit 4 d 14) (s 4))

  most_16 : (c0 c1 c2 c3 d : ℕ) → LanesBelow q x → c0 ≡ s 1 → c1 ≡ s 2 → c2 ≡ s 3 → c3 ≡ s 4 → Rest q x (message 0 c0 c1 c2 c3 0) d → 4 ≤ seven_of d 2 4 8 (s 0)
  most_16 c0 c1 c2 c3 d b e0 e1 e2 e3 left =
      omega (arith, near, own_all q 4 x al s w hs held (message 0 c0 c1 c2 c3 0) d b (omega arith) left (plain_4 q c0 c1 c2 c3 s e0 e1 e2 e3), all_first d (s 0), open_16_3 d (s 0), same_le (digit 4 d 14) (s 0))

-- 32 PLACES: a near message has most of the votes that are counted
module _ (q x y : ℕ) (al : is_alphabet q ≡ true) (s : ℕ → ℕ) (w : List ℕ) (hs : Below q 5 s) (held : Held w 0 x) (held' : Held w 16 y) (near : Near q 5 s (at w)) where
  most_32_0 : (d e : ℕ) → VotesIn q 0 x d → VotesIn q 0 y e → 8 ≤ fifteen_of d e 4 8 1 (s 1)
  unfolding fifteen_of
  most_32_0 d e f g = omega (arith, near, own_both q 5 x al s w hs held y held' 0 d e (omega arith) refl f g, open_16_0 d (s 1), open_16_0 e (s 1), same_le (digit 4 d 13) (s 1))

  most_32_1 : (d e : ℕ) → VotesIn q 1 x d → VotesIn q 1 y e → 8 ≤ fifteen_of d e 2 8 1 (s 2)
  unfolding fifteen_of
  most_32_1 d e f g = omega (arith, near, own_both q 5 x al s w hs held y held' 1 d e (omega arith) refl f g, open_16_1 d (s 2), open_16_1 e (s 2), same_le (digit 4 d 11) (s 2))

  most_32_2 : (d e : ℕ) → VotesIn q 2 x d → VotesIn q 2 y e → 8 ≤ fifteen_of d e 2 4 1 (s 3)
  unfolding fifteen_of
  most_32_2 d e f g = omega (arith, near, own_both q 5 x al s w hs held y held' 2 d e (omega arith) refl f g, open_16_2 d (s 3), open_16_2 e (s 3), same_le (digit 4 d 7) (s 3))

  most_32_3 : (d e : ℕ) → VotesIn q 3 x d → VotesIn q 3 y e → 8 ≤ fifteen_of d e 2 4 8 (s 4)
  unfolding fifteen_of
  most_32_3 d e f g = omega (arith, near, own_both q 5 x al s w hs held y held' 3 d e (omega arith) refl f g, open_16_3 d (s 4), open_16_3 e (s 4), same_le (digit 4 d 14) (s 4))

  most_32_4 : (d : ℕ) → Lanes d (λ t. sub_mod q (digit 4 y t) (digit 4 x t)) → 8 ≤ fifteen_of d (d / 2 ^ 4) 2 4 8 (s 5)
  unfolding fifteen_of
  most_32_4 d f = omega (arith, near, own_last q 5 x al s w hs held y held' d refl f, all_halves d (s 5), open_16_3 d (s 5), open_16_3 (d / 2 ^ 4) (s 5), same_le (digit 4 d 14) (s 5))

  most_32 : (c0 c1 c2 c3 d : ℕ) → LanesBelow q x → LanesBelow q y → c0 ≡ s 1 → c1 ≡ s 2 → c2 ≡ s 3 → c3 ≡ s 4 → Rest q x (message 0 c0 c1 c2 c3 0) d → 8 ≤ fifteen_of d (d / 2 ^ 4) 2 4 8 (s 0)
  unfolding fifteen_of
  most_32 c0 c1 c2 c3 d b b' e0 e1 e2 e3 left =
      omega (
        arith,
        near,
        own_first q 5 x al s w hs held y held' (message 0 c0 c1 c2 c3 0) d refl b b' left (λ i h. plain_4 q c0 c1 c2 c3 s e0 e1 e2 e3 i ∙ ap (λ z. z % q) (sym (linear_low 4 5 (λ k. s (suc k)) i (omega arith) h))),
        all_halves d (s 0),
        open_16_3 d (s 0),
        open_16_3 (d / 2 ^ 4) (s 0),
        same_le (digit 4 d 14) (s 0),
      )

-- a candidate is s where each of its first m + 1 symbols is that of s
symbols_are : (m a c0 c1 c2 c3 c4 : ℕ) (s : ℕ → ℕ) → m ≤ 5 → a ≡ s 0 → (0 < m → c0 ≡ s 1) → (1 < m → c1 ≡ s 2) → (2 < m → c2 ≡ s 3)
    → (3 < m → c3 ≡ s 4) → (4 < m → c4 ≡ s 5) → (k : ℕ) → k < suc m → at (message a c0 c1 c2 c3 c4) k ≡ s k
unfolding message
symbols_are m a c0 c1 c2 c3 c4 s h e e0 e1 e2 e3 e4 zero l = e
symbols_are m a c0 c1 c2 c3 c4 s h e e0 e1 e2 e3 e4 (suc zero) l = e0 (omega arith)
symbols_are m a c0 c1 c2 c3 c4 s h e e0 e1 e2 e3 e4 (suc (suc zero)) l = e1 (omega arith)
symbols_are m a c0 c1 c2 c3 c4 s h e e0 e1 e2 e3 e4 (suc (suc (suc zero))) l = e2 (omega arith)
symbols_are m a c0 c1 c2 c3 c4 s h e e0 e1 e2 e3 e4 (suc (suc (suc (suc zero)))) l = e3 (omega arith)
symbols_are m a c0 c1 c2 c3 c4 s h e e0 e1 e2 e3 e4 (suc (suc (suc (suc (suc zero))))) l = e4 (omega arith)
symbols_are m a c0 c1 c2 c3 c4 s h e e0 e1 e2 e3 e4 (suc (suc (suc (suc (suc (suc k)))))) l = absurd (omega arith)

-- THE CANDIDATES of words of 4, 8, 16 and 32 places
pub candidate_4 : (q x d0 d1 a c0 c1 : ℕ) → is_alphabet q ≡ true → LanesBelow q x
    → VotesIn q 0 x d0 → Most q 1 (same (digit 4 d0 0)) c0
    → VotesIn q 1 x d1 → Most q 1 (same (digit 4 d1 0)) c1
    → Most q 1 (same (digit 4 x 0)) a
    → CandidateOf q 2 x (message a c0 c1 0 0 0)
candidate_4 q x d0 d1 a c0 c1 al b v0 h0 v1 h1 h w held = record {
  size = six _ _ _ _ _ _;
  below = let z = alphabet_positive q al in below_6 q a c0 c1 0 0 0 h.fits h0.fits h1.fits z z z;
  only = λ s hs near.
      let e0 = h0.is (s 1) (hs 1 (omega arith)) (most_4_0 q x al s w hs held near d0 v0) in
      let e1 = h1.is (s 2) (hs 2 (omega arith)) (most_4_1 q x al s w hs held near d1 v1) in
      symbols_are 2 a c0 c1 0 0 0 s (omega arith)
      (h.is (s 0) (hs 0 (omega arith)) (most_4 q x al s w hs held near b))
      (λ l. e0) (λ l. e1) (λ l. absurd (omega (arith, l))) (λ l. absurd (omega (arith, l))) (λ l. absurd (omega (arith, l)));
}

pub candidate_8 : (q x d0 d1 d2 d a c0 c1 c2 : ℕ) → is_alphabet q ≡ true → LanesBelow q x
    → VotesIn q 0 x d0 → Most q 2 (three_of d0 4 8) c0
    → VotesIn q 1 x d1 → Most q 2 (three_of d1 2 8) c1
    → VotesIn q 2 x d2 → Most q 2 (three_of d2 2 4) c2
    → Rest q x (message 0 c0 c1 c2 0 0) d → Most q 2 (three_of d 2 4) a
    → CandidateOf q 3 x (message a c0 c1 c2 0 0)
candidate_8 q x d0 d1 d2 d a c0 c1 c2 al b v0 h0 v1 h1 v2 h2 left h w held = record {
  size = six _ _ _ _ _ _;
  below = let z = alphabet_positive q al in below_6 q a c0 c1 c2 0 0 h.fits h0.fits h1.fits h2.fits z z;
  only = λ s hs near.
      let e0 = h0.is (s 1) (hs 1 (omega arith)) (most_8_0 q x al s w hs held near d0 v0) in
      let e1 = h1.is (s 2) (hs 2 (omega arith)) (most_8_1 q x al s w hs held near d1 v1) in
      let e2 = h2.is (s 3) (hs 3 (omega arith)) (most_8_2 q x al s w hs held near d2 v2) in
      symbols_are 3 a c0 c1 c2 0 0 s (omega arith)
      (h.is (s 0) (hs 0 (omega arith)) (most_8 q x al s w hs held near c0 c1 c2 d b e0 e1 e2 left))
      (λ l. e0) (λ l. e1) (λ l. e2) (λ l. absurd (omega (arith, l))) (λ l. absurd (omega (arith, l)));
}

pub candidate_16 : (q x d0 d1 d2 d3 d a c0 c1 c2 c3 : ℕ) → is_alphabet q ≡ true → LanesBelow q x
    → VotesIn q 0 x d0 → Most q 4 (seven_of d0 4 8 1) c0
    → VotesIn q 1 x d1 → Most q 4 (seven_of d1 2 8 1) c1
    → VotesIn q 2 x d2 → Most q 4 (seven_of d2 2 4 1) c2
    → VotesIn q 3 x d3 → Most q 4 (seven_of d3 2 4 8) c3
    → Rest q x (message 0 c0 c1 c2 c3 0) d → Most q 4 (seven_of d 2 4 8) a
    → CandidateOf q 4 x (message a c0 c1 c2 c3 0)
candidate_16 q x d0 d1 d2 d3 d a c0 c1 c2 c3 al b v0 h0 v1 h1 v2 h2 v3 h3 left h w held = record {
  size = six _ _ _ _ _ _;
  below = below_6 q a c0 c1 c2 c3 0 h.fits h0.fits h1.fits h2.fits h3.fits (alphabet_positive q al);
  only = λ s hs near.
      let e0 = h0.is (s 1) (hs 1 (omega arith)) (most_16_0 q x al s w hs held near d0 v0) in
      let e1 = h1.is (s 2) (hs 2 (omega arith)) (most_16_1 q x al s w hs held near d1 v1) in
      let e2 = h2.is (s 3) (hs 3 (omega arith)) (most_16_2 q x al s w hs held near d2 v2) in
      let e3 = h3.is (s 4) (hs 4 (omega arith)) (most_16_3 q x al s w hs held near d3 v3) in
      symbols_are 4 a c0 c1 c2 c3 0 s (omega arith)
      (h.is (s 0) (hs 0 (omega arith)) (most_16 q x al s w hs held near c0 c1 c2 c3 d b e0 e1 e2 e3 left))
      (λ l. e0) (λ l. e1) (λ l. e2) (λ l. e3) (λ l. absurd (omega (arith, l)));
}

pub candidate_32 : (q x y d0 e0 d1 e1 d2 e2 d3 e3 d4 d a c0 c1 c2 c3 c4 : ℕ) → is_alphabet q ≡ true → LanesBelow q x → LanesBelow q y
    → VotesIn q 0 x d0 → VotesIn q 0 y e0 → Most q 8 (fifteen_of d0 e0 4 8 1) c0
    → VotesIn q 1 x d1 → VotesIn q 1 y e1 → Most q 8 (fifteen_of d1 e1 2 8 1) c1
    → VotesIn q 2 x d2 → VotesIn q 2 y e2 → Most q 8 (fifteen_of d2 e2 2 4 1) c2
    → VotesIn q 3 x d3 → VotesIn q 3 y e3 → Most q 8 (fifteen_of d3 e3 2 4 8) c3
    → Lanes d4 (λ t. sub_mod q (digit 4 y t) (digit 4 x t)) → Most q 8 (fifteen_of d4 (d4 / 2 ^ 4) 2 4 8) c4
    → Rest q x (message 0 c0 c1 c2 c3 0) d → Most q 8 (fifteen_of d (d / 2 ^ 4) 2 4 8) a
    → CandidateOfBoth q 5 x y (message a c0 c1 c2 c3 c4)
candidate_32 q x y d0 e0 d1 e1 d2 e2 d3 e3 d4 d a c0 c1 c2 c3 c4 al b b' v0 u0 h0 v1 u1 h1 v2 u2 h2 v3 u3 h3 v4 h4 left h w held held' = record {
  size = six _ _ _ _ _ _;
  below = below_6 q a c0 c1 c2 c3 c4 h.fits h0.fits h1.fits h2.fits h3.fits h4.fits;
  only = λ s hs near.
      let i0 = h0.is (s 1) (hs 1 (omega arith)) (most_32_0 q x y al s w hs held held' near d0 e0 v0 u0) in
      let i1 = h1.is (s 2) (hs 2 (omega arith)) (most_32_1 q x y al s w hs held held' near d1 e1 v1 u1) in
      let i2 = h2.is (s 3) (hs 3 (omega arith)) (most_32_2 q x y al s w hs held held' near d2 e2 v2 u2) in
      let i3 = h3.is (s 4) (hs 4 (omega arith)) (most_32_3 q x y al s w hs held held' near d3 e3 v3 u3) in
      let i4 = h4.is (s 5) (hs 5 (omega arith)) (most_32_4 q x y al s w hs held held' near d4 v4) in
      symbols_are 5 a c0 c1 c2 c3 c4 s (omega arith)
      (h.is (s 0) (hs 0 (omega arith)) (most_32 q x y al s w hs held held' near c0 c1 c2 c3 d b b' i0 i1 i2 i3 left))
      (λ l. i0) (λ l. i1) (λ l. i2) (λ l. i3) (λ l. i4);
}
