-- The votes of a word's places as they stand in the lanes, and how many of them are left in 3, 7 or 15 lanes. Assumes nothing.
use Prim.Native.Nat.{ℕ, zero, suc, ◌+◌, ◌/◌, ◌^◌, ◌≤◌, ◌<◌}
use mathlib.Core.Path.{◌≡◌, refl, ap, ap₂, ◌∙◌}
use mathlib.Core.Bool.{true}
use mathlib.Core.List.{List}
use native.Mathlib.Omega.{arith}
use native.Mathlib.Nat.{add_comm}
use borrow.Author.Tests.{eqb-true}
use lib.Dec.{eqb}
use Rattle.code_theory.specs.Sum.{sum, every, at}
use Rattle.code_theory.specs.Index.{bit, if_clear}
use Rattle.code_theory.specs.Modular.{sub_mod, same}
use Rattle.code_theory.specs.Vote.{vote}
use Rattle.code_theory.proofs.SumLaws.{sum_ext}
use Rattle.code_theory.proofs.ModularLaws.{same_le}
use Rattle.code_theory.proofs.EveryLaws.{every_at}
use Rattle.swar_theory.specs.Internal.{digit}
use Rattle.swar_theory.proofs.DigitLaws.{digit_down}
use Rattle.swar_lanes.specs.Internal.{offset, lane_of, place_of, LanesBelow, Held, lane_bit, VotesIn}
use Rattle.swar_lanes.proofs.LaneLaws.{lane_lt, lane_place}
use Rattle.swar_lanes.proofs.SpotLaws.{lane_up}
use Rattle.swar_majority.specs.Internal.{three_of, seven_of}

-- bit k of a place is bit `lane_bit k` of its lane
same_bits : every 4 (λ k. every 16 (λ j. eqb (bit (lane_bit k) (lane_of j)) (bit k j))) ≡ true
unfolding every lane_of bit lane_bit
same_bits = refl

lane_bit_lem : (k j : ℕ) → k < 4 → j < 16 → bit (lane_bit k) (lane_of j) ≡ bit k j
lane_bit_lem k j hk h = eqb-true _ _ (every_at 16 (λ j. eqb (bit (lane_bit k) (lane_of j)) (bit k j)) (every_at 4 (λ k. every 16 (λ j. eqb (bit (lane_bit k) (lane_of j)) (bit k j))) same_bits k hk) j h)

-- the lane of place j has the symbol of place j
pub held_at : (w : List ℕ) (i x : ℕ) → Held w i x → (j : ℕ) → j < 16 → place_of x j ≡ at w (i + j)
unfolding place_of
held_at w i x held j h = held (lane_of j) (lane_lt j h) ∙ ap (λ z. at w (i + z)) (lane_place j h)

-- and it is below q where the lanes are
pub symbol_below : (q : ℕ) (w : List ℕ) (i x : ℕ) → Held w i x → LanesBelow q x → (j : ℕ) → j < 16 → at w (i + j) < q
symbol_below q w i x held b j h = omega (arith, held (lane_of j) (lane_lt j h), ap (λ z. at w (i + z)) (lane_place j h), b (lane_of j) (lane_lt j h))

-- THE VOTE of place j stands in the lane of place j
pub vote_at_lem : (q k x d : ℕ) (w : List ℕ) (i : ℕ) → k < 4 → VotesIn q k x d → Held w i x → (j : ℕ) → j < 16 → bit k j ≡ 0 → place_of d j ≡ vote q k (at w) (i + j)
unfolding vote place_of
vote_at_lem q k x d w i hk votes held j h z =
    let (u, e) = lane_up k (lane_of j) hk (lane_lt j h) (lane_bit_lem k j hk h ∙ z) in
    let p : i + offset (lane_of j + 2 ^ lane_bit k) ≡ i + j + 2 ^ k = omega (arith, e, lane_place j h) in
    votes.votes (lane_of j) (lane_lt j h) (lane_bit_lem k j hk h ∙ z)
    ∙ ap₂ (sub_mod q) (ap (digit 4 x) (add_comm (2 ^ lane_bit k) (lane_of j)) ∙ held (lane_of j + 2 ^ lane_bit k) u ∙ ap (at w) p) (held_at w i x held j h)

-- how many of the first n places whose bit k is 0 have v in their lane
unfoldable pub open_of : ℕ → ℕ → ℕ → ℕ → ℕ
open_of n k d v = sum n (λ j. if_clear (bit k j) (same (place_of d j) v))

-- how many of the first n places have v in their lane
unfoldable pub all_of : ℕ → ℕ → ℕ → ℕ
all_of n d v = sum n (λ j. same (place_of d j) v)

-- the counts are those of f, where the lane of place j is f j
pub open_is : (n k d : ℕ) (f : ℕ → ℕ) → n ≤ 16 → ((j : ℕ) → j < 16 → bit k j ≡ 0 → place_of d j ≡ f j)
    → (v : ℕ) → open_of n k d v ≡ sum n (λ j. if_clear (bit k j) (same (f j) v))
unfolding open_of if_clear
open_is n k d f l h v = sum_ext n _ _ (λ j b. go j (bit k j) (h j (omega (arith, l, b))))
  where
    go : (j b : ℕ) → (b ≡ 0 → place_of d j ≡ f j) → if_clear b (same (place_of d j) v) ≡ if_clear b (same (f j) v)
    go j zero e = ap (λ x. same x v) (e refl)
    go j (suc b) e = refl

pub all_is : (n d : ℕ) (f : ℕ → ℕ) → n ≤ 16 → ((j : ℕ) → j < 16 → place_of d j ≡ f j) → (v : ℕ) → all_of n d v ≡ sum n (λ j. same (f j) v)
unfolding all_of
all_is n d f l h v = sum_ext n _ _ (λ j b. ap (λ x. same x v) (h j (omega (arith, l, b))))

-- THE LANES that are counted, and the one lane that is left out
module _ (d v : ℕ) where
  pub open_4_0 : open_of 4 0 d v ≡ same (digit 4 d 0) v + same (digit 4 d 4) v
  unfolding open_of sum if_clear bit lane_of place_of
  open_4_0 = omega arith

  pub open_4_1 : open_of 4 1 d v ≡ same (digit 4 d 0) v + same (digit 4 d 2) v
  unfolding open_of sum if_clear bit lane_of place_of
  open_4_1 = omega arith

  pub open_8_0 : open_of 8 0 d v ≡ three_of d 4 8 v + same (digit 4 d 12) v
  unfolding open_of sum if_clear bit lane_of place_of three_of
  open_8_0 = omega arith

  pub open_8_1 : open_of 8 1 d v ≡ three_of d 2 8 v + same (digit 4 d 10) v
  unfolding open_of sum if_clear bit lane_of place_of three_of
  open_8_1 = omega arith

  pub open_8_2 : open_of 8 2 d v ≡ three_of d 2 4 v + same (digit 4 d 6) v
  unfolding open_of sum if_clear bit lane_of place_of three_of
  open_8_2 = omega arith

  pub open_16_0 : open_of 16 0 d v ≡ seven_of d 4 8 1 v + same (digit 4 d 13) v
  unfolding open_of sum if_clear bit lane_of place_of seven_of
  open_16_0 = omega arith

  pub open_16_1 : open_of 16 1 d v ≡ seven_of d 2 8 1 v + same (digit 4 d 11) v
  unfolding open_of sum if_clear bit lane_of place_of seven_of
  open_16_1 = omega arith

  pub open_16_2 : open_of 16 2 d v ≡ seven_of d 2 4 1 v + same (digit 4 d 7) v
  unfolding open_of sum if_clear bit lane_of place_of seven_of
  open_16_2 = omega arith

  pub open_16_3 : open_of 16 3 d v ≡ seven_of d 2 4 8 v + same (digit 4 d 14) v
  unfolding open_of sum if_clear bit lane_of place_of seven_of
  open_16_3 = omega arith

  -- the lanes of all places, for the constant
  pub all_8 : all_of 8 d v ≤ three_of d 2 4 v + 5
  unfolding all_of sum lane_of place_of three_of
  all_8 = omega (arith, same_le (digit 4 d 6) v, same_le (digit 4 d 8) v, same_le (digit 4 d 10) v, same_le (digit 4 d 12) v, same_le (digit 4 d 14) v)

  pub all_halves : all_of 16 d v ≡ open_of 16 3 d v + open_of 16 3 (d / 2 ^ 4) v
  unfolding all_of open_of sum if_clear bit lane_of place_of
  all_halves = omega (arith, shifted 0, shifted 2, shifted 4, shifted 6, shifted 8, shifted 10, shifted 12, shifted 14)
    where
      shifted : (t : ℕ) → same (digit 4 (d / 2 ^ 4) t) v ≡ same (digit 4 d (1 + t)) v
      shifted t = ap (λ z. same z v) (digit_down 4 d 1 t)

  pub all_first : all_of 16 d v ≤ open_of 16 3 d v + 8
  unfolding all_of open_of sum if_clear bit lane_of place_of
  all_first =
      omega (
        arith,
        same_le (digit 4 d 1) v,
        same_le (digit 4 d 3) v,
        same_le (digit 4 d 5) v,
        same_le (digit 4 d 7) v,
        same_le (digit 4 d 9) v,
        same_le (digit 4 d 11) v,
        same_le (digit 4 d 13) v,
        same_le (digit 4 d 15) v,
      )
