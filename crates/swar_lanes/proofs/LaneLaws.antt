-- The lanes of constants, blends and differences, and the places that lanes hold. Assumes nothing.
use Prim.Native.Nat.{ℕ, suc, ◌+◌, ◌*◌, ◌-◌, ◌/◌, ◌%◌, ◌^◌, ◌≤◌, ◌<◌}
use mathlib.Core.Path.{◌≡◌, refl, ap, ap₂, sym, ◌∙◌}
use mathlib.Core.Logic.{inl, inr}
use mathlib.Core.Bool.{true, cond}
use native.Mathlib.Omega.{arith}
use native.Mathlib.Decide.{dec_lt}
use native.Mathlib.Numerals.{add-one}
use native.Mathlib.Nat.{mod-eq_of_lt}
use borrow.Author.Tests.{eqb-true, lt-ltb, le-ltb}
use lib.Dec.{eqb}
use lib.Pow.{pow_mono}
use lib.Bits.{bit_and, and_mask, and_zero_r, and_le_l}
use Rattle.code_theory.specs.Sum.{every}
use Rattle.code_theory.specs.Index.{bit}
use Rattle.code_theory.specs.Modular.{sub_mod}
use Rattle.code_theory.specs.Question.{is_alphabet}
use Rattle.code_theory.proofs.IndexLaws.{bit_lt, by_bit}
use Rattle.code_theory.proofs.ModularLaws.{sub_mod_code, sub_mod_lt}
use Rattle.code_theory.proofs.QuestionLaws.{Alphabet, alphabet, alphabet_bounds, alphabet_positive, mask_mod}
use Rattle.code_theory.proofs.EveryLaws.{every_at}
use Rattle.swar_theory.specs.Internal.{digit}
use Rattle.swar_theory.proofs.DigitLaws.{digit_lt, digit_past, digit_and, digit_add, add_lt, digit_sub, sub_le, digit_times, digit_down}
use Rattle.swar_lanes.specs.Internal.{lane_bit, VotesIn, offset, lane_of, place_of, places_of, Lanes, LanesBelow, ClearLanes, Blend}

-- the lanes of a literal, by one computed test
pub lanes_are : (x : ℕ) (f : ℕ → ℕ) → every 16 (λ t. eqb (digit 4 x t) (f t)) ≡ true → Lanes x f
lanes_are x f e t h = eqb-true _ _ (every_at 16 (λ t. eqb (digit 4 x t) (f t)) e t h)

pub full_lanes : Lanes 0xffff_ffff_ffff_ffff (λ t. 15)
unfolding every digit
full_lanes = lanes_are 0xffff_ffff_ffff_ffff (λ t. 15) refl

pub seven_lanes : Lanes 0x7777_7777_7777_7777 (λ t. 7)
unfolding every digit
seven_lanes = lanes_are 0x7777_7777_7777_7777 (λ t. 7) refl

eight_lanes : Lanes 0x8888_8888_8888_8888 (λ t. 8)
unfolding every digit
eight_lanes = lanes_are 0x8888_8888_8888_8888 (λ t. 8) refl

pub one_lanes : Lanes 0x1111_1111_1111_1111 (λ t. 1)
unfolding every digit
one_lanes = lanes_are 0x1111_1111_1111_1111 (λ t. 1) refl

pub clear_at : (l n x : ℕ) → l ≡ n → every 16 (λ t. eqb (digit 4 x t) (15 * (1 - bit n t))) ≡ true → ClearLanes l x
clear_at l n x e f t h = lanes_are x (λ t. 15 * (1 - bit n t)) f t h ∙ ap (λ z. 15 * (1 - bit z t)) (sym e)

-- an `and` with 15 keeps a lane, and one with 0 clears it
keep : (d e : ℕ) → d < 16 → e ≡ 15 → bit_and d e ≡ d
keep d e h f = ap (bit_and d) f ∙ and_mask d 4 ∙ mod-eq_of_lt h

drop : (d e : ℕ) → e ≡ 0 → bit_and d e ≡ 0
drop d e f = ap (bit_and d) f ∙ and_zero_r d

module _ (l u v e : ℕ) (hu : u < 18446744073709551616) (hv : v < 18446744073709551616) (he : e < 18446744073709551616) (c : ClearLanes l e) where
  odd_lanes : Lanes (18446744073709551615 - e) (λ t. 15 - 15 * (1 - bit l t))
  odd_lanes t h =
      digit_sub 4 16 18446744073709551615 e (omega arith) he (λ i j. omega (arith, full_lanes i j, digit_lt 4 e i)) t h
      ∙ ap₂ (λ x y. x - y) (full_lanes t h) (c t h)

  left_lane : (t : ℕ) → t < 16 → digit 4 (bit_and u e) t ≡ bit_and (digit 4 u t) (15 * (1 - bit l t))
  left_lane t h = digit_and 4 u e t ∙ ap (bit_and (digit 4 u t)) (c t h)

  right_lane : (t : ℕ) → t < 16 → digit 4 (bit_and v (18446744073709551615 - e)) t ≡ bit_and (digit 4 v t) (15 - 15 * (1 - bit l t))
  right_lane t h = digit_and 4 v (18446744073709551615 - e) t ∙ ap (bit_and (digit 4 v t)) (odd_lanes t h)

  module _ (t : ℕ) (h : t < 16) where
    left_kept : bit l t ≡ 0 → digit 4 (bit_and u e) t ≡ digit 4 u t
    left_kept z = left_lane t h ∙ keep (digit 4 u t) _ (digit_lt 4 u t) (ap (λ x. 15 * (1 - x)) z)

    left_none : bit l t ≡ 1 → digit 4 (bit_and u e) t ≡ 0
    left_none z = left_lane t h ∙ drop (digit 4 u t) _ (ap (λ x. 15 * (1 - x)) z)

    right_none : bit l t ≡ 0 → digit 4 (bit_and v (18446744073709551615 - e)) t ≡ 0
    right_none z = right_lane t h ∙ drop (digit 4 v t) _ (ap (λ x. 15 - 15 * (1 - x)) z)

    right_kept : bit l t ≡ 1 → digit 4 (bit_and v (18446744073709551615 - e)) t ≡ digit 4 v t
    right_kept z = right_lane t h ∙ keep (digit 4 v t) _ (digit_lt 4 v t) (ap (λ x. 15 - 15 * (1 - x)) z)

    blend_fits : digit 4 (bit_and u e) t + digit 4 (bit_and v (18446744073709551615 - e)) t < 16
    blend_fits = by_bit (bit l t) (bit_lt l t)
        (λ z. omega (arith, right_none z, digit_lt 4 (bit_and u e) t))
        (λ z. omega (arith, left_none z, digit_lt 4 (bit_and v (18446744073709551615 - e)) t))

  left_lt : bit_and u e < 2 ^ (4 * 16)
  left_lt = omega (arith, and_le_l u e)

  right_lt : bit_and v (18446744073709551615 - e) < 2 ^ (4 * 16)
  right_lt = omega (arith, and_le_l v (18446744073709551615 - e))

  -- THE BLEND of two numbers has the lanes of u under the mask e, and those of v elsewhere
  pub blend_is : Blend l u v (bit_and u e + bit_and v (18446744073709551615 - e))
  blend_is = record {
    low = λ t h z. added t h ∙ ap₂ (λ x y. x + y) (left_kept t h z) (right_none t h z) ∙ omega arith;
    high = λ t h z. added t h ∙ ap₂ (λ x y. x + y) (left_none t h z) (right_kept t h z) ∙ omega arith;
  }
    where
      added : (t : ℕ) → t < 16 → digit 4 (bit_and u e + bit_and v (18446744073709551615 - e)) t ≡ digit 4 (bit_and u e) t + digit 4 (bit_and v (18446744073709551615 - e)) t
      added t h = digit_add 4 16 (bit_and u e) (bit_and v (18446744073709551615 - e)) left_lt right_lt blend_fits t h

-- DIFFERENCES of lanes modulo q: q divides 8
eight_more : (q a b : ℕ) → Alphabet q → b < q → (a + 8 - b) % q ≡ sub_mod q a b
eight_more q a b h l = each h ∙ sym (sub_mod_code q a b l)
  where
    each : Alphabet q → (a + 8 - b) % q ≡ (a + q - b) % q
    each (inl e) = let k : b < 2 = omega arith in rw e (omega arith)
    each (inr (inl e)) = let k : b < 4 = omega arith in rw e (omega arith)
    each (inr (inr e)) = rw e

-- a times a number whose lanes are 1 has a in every lane
pub spread_lanes : (a : ℕ) → a < 16 → Lanes (a * 0x1111_1111_1111_1111) (λ t. a)
spread_lanes a l t h =
    digit_times 4 16 a 0x1111_1111_1111_1111 (omega arith) (λ i j. omega (arith, l, ap (λ z. a * z) (one_lanes i j))) t h
    ∙ ap (λ z. a * z) (one_lanes t h) ∙ omega arith

-- the mask that leaves each lane modulo q has q - 1 in every lane
pub mask_lane : (q : ℕ) → is_alphabet q ≡ true → Lanes ((q - 1) * 0x1111_1111_1111_1111) (λ t. q - 1)
mask_lane q a = spread_lanes (q - 1) (omega (arith, alphabet_bounds q (alphabet q a)))

-- a number whose lanes are below q has no lane above 7
pub symbols_le : (q z : ℕ) → is_alphabet q ≡ true → z < 18446744073709551616 → LanesBelow q z → z ≤ 0x7777_7777_7777_7777
symbols_le q z a hz b = sub_le 4 16 0x7777_7777_7777_7777 z (omega arith) hz (λ t h. omega (arith, seven_lanes t h, b t h, alphabet_bounds q (alphabet q a)))

module _ (q y x : ℕ) (a : is_alphabet q ≡ true) (hy : y < 18446744073709551616) (hx : x < 18446744073709551616) (by : LanesBelow q y) (bx : LanesBelow q x) where
  pub few : (2 ≤ q) × (q ≤ 8)
  few = alphabet_bounds q (alphabet q a)

  lifted : (t : ℕ) → t < 16 → digit 4 y t + digit 4 0x8888_8888_8888_8888 t < 16
  lifted t h = omega (arith, by t h, few, eight_lanes t h)

  lift_lt : y + 0x8888_8888_8888_8888 < 18446744073709551616
  lift_lt = add_lt 4 16 y 0x8888_8888_8888_8888 hy (omega arith) lifted

  lift_lane : (t : ℕ) → t < 16 → digit 4 (y + 0x8888_8888_8888_8888) t ≡ digit 4 y t + 8
  lift_lane t h = digit_add 4 16 y 0x8888_8888_8888_8888 hy (omega arith) lifted t h ∙ ap (λ z. digit 4 y t + z) (eight_lanes t h)

  under : (t : ℕ) → t < 16 → digit 4 x t ≤ digit 4 (y + 0x8888_8888_8888_8888) t
  under t h = omega (arith, lift_lane t h, bx t h, few)

  less_lane : (t : ℕ) → t < 16 → digit 4 (y + 0x8888_8888_8888_8888 - x) t ≡ digit 4 y t + 8 - digit 4 x t
  less_lane t h = digit_sub 4 16 (y + 0x8888_8888_8888_8888) x lift_lt hx under t h ∙ ap (λ z. z - digit 4 x t) (lift_lane t h)

  pub mask_lt : (q - 1) * 0x1111_1111_1111_1111 < 18446744073709551616
  mask_lt = omega (arith, few)

  pub less_is : Lanes (bit_and (y + 0x8888_8888_8888_8888 - x) ((q - 1) * 0x1111_1111_1111_1111)) (λ t. sub_mod q (digit 4 y t) (digit 4 x t))
  less_is t h =
      digit_and 4 (y + 0x8888_8888_8888_8888 - x) ((q - 1) * 0x1111_1111_1111_1111) t
      ∙ ap₂ bit_and (less_lane t h) (mask_lane q a t h)
      ∙ mask_mod q _ (alphabet q a)
      ∙ eight_more q (digit 4 y t) (digit 4 x t) (alphabet q a) (bx t h)

pub less_below : (q y x r : ℕ) → is_alphabet q ≡ true → Lanes r (λ t. sub_mod q (digit 4 y t) (digit 4 x t)) → LanesBelow q r
less_below q y x r a d t h = omega (arith, d t h, sub_mod_lt q (digit 4 y t) (digit 4 x t) (omega (arith, alphabet_bounds q (alphabet q a))))

-- a number moved down by s lanes has its lanes below q where the number has
down_below : (q s x : ℕ) → is_alphabet q ≡ true → x < 18446744073709551616 → LanesBelow q x → LanesBelow q (x / 2 ^ (4 * s))
down_below q s x al hx b t h = go (dec_lt (s + t) 16)
  where
    go : Dec (s + t < 16) → digit 4 (x / 2 ^ (4 * s)) t < q
    go (yes l) = omega (arith, digit_down 4 x s t, b (s + t) l)
    go (no l) = omega (arith, digit_down 4 x s t, digit_past 4 16 x (s + t) hx (omega arith), alphabet_positive q al)

-- the results of `lane_bit`, `apart` and `partners`, as the code computes them
pub lane_bit_code : (k : ℕ) → (bit_and (k + 1) 3 ≡ lane_bit k) × (bit_and (k + 1) 3 < 4)
unfolding lane_bit
lane_bit_code k = let e : bit_and (k + 1) 3 ≡ suc k % 4 = and_mask (k + 1) 2 ∙ ap (λ n. n % 4) (add-one k) in (e, omega (arith, e))

pub apart_code : (l k : ℕ) → l ≡ lane_bit k → l < 4 → ((1 * 2 ^ l) % 4294967296 ≡ 2 ^ lane_bit k) × ((1 * 2 ^ l) % 4294967296 < 16)
apart_code l k e h = omega (arith, pow_mono {i = l} {j = 3} (omega arith), ap (λ n. 2 ^ n) e)

pub lane_step_code : (l k : ℕ) → l ≡ lane_bit k → l < 4 → ((4 * 2 ^ l) % 4294967296 ≡ 4 * 2 ^ lane_bit k) × ((4 * 2 ^ l) % 4294967296 < 64)
lane_step_code l k e h = omega (arith, pow_mono {i = l} {j = 3} (omega arith), ap (λ n. 2 ^ n) e)

pub partners_below : (q k x y : ℕ) → is_alphabet q ≡ true → x < 18446744073709551616 → LanesBelow q x → y ≡ x / 2 ^ (4 * 2 ^ lane_bit k) → LanesBelow q y
partners_below q k x y al h b e t i = omega (arith, ap (λ n. digit 4 n t) e, down_below q (2 ^ lane_bit k) x al h b t i)

-- the mask e keeps the votes, and clears the other lanes
pub votes_in_is : (q k x y l e d : ℕ) → l ≡ lane_bit k → y ≡ x / 2 ^ (4 * 2 ^ lane_bit k) → ClearLanes l e
    → Lanes d (λ t. sub_mod q (digit 4 y t) (digit 4 x t)) → VotesIn q k x (bit_and d e)
votes_in_is q k x y l e d f g c v = record {
  votes = λ t h z.
      digit_and 4 d e t ∙ keep (digit 4 d t) (digit 4 e t) (digit_lt 4 d t) (c t h ∙ ap (λ b. 15 * (1 - b)) (ap (λ n. bit n t) f ∙ z))
      ∙ v t h ∙ ap (λ n. sub_mod q n (digit 4 x t)) (ap (λ n. digit 4 n t) g ∙ digit_down 4 x (2 ^ lane_bit k) t);
  others = λ t h z. digit_and 4 d e t ∙ drop (digit 4 d t) (digit 4 e t) (c t h ∙ ap (λ b. 15 * (1 - b)) (ap (λ n. bit n t) f ∙ z));
}

-- every lane of 0 is 0
pub none_lanes : Lanes 0 (λ t. 0)
unfolding every digit
none_lanes = lanes_are 0 (λ t. 0) refl

pub none_below : (q : ℕ) → is_alphabet q ≡ true → LanesBelow q 0
none_below q al t h = omega (arith, none_lanes t h, alphabet_positive q al)

-- `lane_of` and `offset` take the places below 16 to the lanes below 16 and back
pub offset_lt : (t : ℕ) → t < 16 → offset t < 16
unfolding offset
offset_lt t h = omega arith

pub lane_lt : (i : ℕ) → i < 16 → lane_of i < 16
unfolding lane_of
lane_lt i h = omega arith

pub lane_place : (i : ℕ) → i < 16 → offset (lane_of i) ≡ i
unfolding lane_of offset
lane_place i h = omega arith

pub place_lane : (t : ℕ) → t < 16 → lane_of (offset t) ≡ t
unfolding lane_of offset
place_lane t h = omega arith

-- THE PLACE of lane t is the value of the lane
pub at_lane : (x t : ℕ) → t < 16 → place_of x (offset t) ≡ digit 4 x t
unfolding place_of
at_lane x t h = ap (digit 4 x) (place_lane t h)

-- THE PLACES OF TWO NUMBERS: the first sixteen are in f, the second in h
pub first_places : (f h i : ℕ) → i < 16 → places_of f h i ≡ place_of f i
unfolding places_of
first_places f h i l = ap (λ z. cond z (place_of f i) (place_of h (i - 16))) (lt-ltb i 16 l)

pub second_places : (f h i j : ℕ) → i ≡ 16 + j → places_of f h i ≡ place_of h j
unfolding places_of
second_places f h i j e = ap (λ z. cond z (place_of f i) (place_of h (i - 16))) (le-ltb i 16 (omega (arith, e))) ∙ ap (place_of h) (omega (arith, e))
