-- Words of up to 16 places in lanes, and their errors place by place. Assumes nothing.
use Prim.Native.Nat.{ℕ, zero, suc, ◌+◌, ◌*◌, ◌/◌, ◌%◌, ◌≤◌, ◌<◌}
use mathlib.Core.Path.{◌≡◌, refl, ap, sym, ◌∙◌}
use mathlib.Core.List.{List}
use native.Mathlib.Decide.{dec_lt}
use native.Mathlib.Omega.{arith}
use native.Mathlib.Nat.{mod-add-mod, div-eq_of_lt, add_comm, zero-add, mod-eq_of_lt}
use lib.ListN.{length, get_or-eq_default}
use Rattle.code_theory.specs.Sum.{sum, at}
use Rattle.code_theory.specs.Modular.{sub_mod, same, differ}
use Rattle.code_theory.proofs.ModularLaws.{sub_mod_lt, sub_mod_is, add_sub_mod, sub_mod_mod, same_eq, same_ne, differ_eq, differ_ne}
use Rattle.swar_theory.specs.Internal.{digit}
use Rattle.swar_theory.proofs.DigitLaws.{digit_past, digit_even, digit_odd}
use Rattle.swar_bytes.specs.Internal.{Holds, from}
use Rattle.swar_lanes.specs.Internal.{offset, Lanes, Low, Held}
use Rattle.swar_count.specs.Internal.{marked_equal}

-- where the symbols of a word fit a lane, so does 0 past its end
all_low : (w : List ℕ) → Low w → (l : ℕ) → at w l < 16
all_low w low l = go (dec_lt l (length w))
  where
    go : Dec (l < length w) → at w l < 16
    go (yes k) = low l k
    go (no k) = omega (arith, get_or-eq_default w 0 {n = l} (omega arith))

-- EIGHT PLACES or fewer that stand in the bytes of a number stand in its even lanes
pub held_bytes : (w : List ℕ) (x : ℕ) → length w ≤ 8 → ((l : ℕ) → l < 8 → digit 8 x l ≡ at w l) → ((l : ℕ) → at w l < 16) → Held w 0 x
unfolding offset
held_bytes w x n h low t k = go (t / 2) (t % 2) refl refl
  where
    go : (l p : ℕ) → t / 2 ≡ l → t % 2 ≡ p → digit 4 x t ≡ at w (0 + (8 * (t % 2) + t / 2))
    go l zero e f =
        let g : t ≡ 2 * l = omega arith in
        let place : l ≡ 0 + (8 * (t % 2) + t / 2) = omega arith in
        let value : at w l % 16 ≡ at w l = mod-eq_of_lt (low l) in
        ap (digit 4 x) g ∙ digit_even 4 x l ∙ ap (λ z. z % 16) (h l (omega arith)) ∙ value ∙ ap (at w) place
    go l (suc zero) e f =
        let g : t ≡ 2 * l + 1 = omega arith in
        let place : 8 + l ≡ 0 + (8 * (t % 2) + t / 2) = omega arith in
        let value : at w l / 16 ≡ 0 = div-eq_of_lt (low l) in
        ap (digit 4 x) g ∙ digit_odd 4 x l ∙ ap (λ z. z / 16) (h l (omega arith)) ∙ value ∙ sym (get_or-eq_default w 0 {n = 8 + l} (omega arith)) ∙ ap (at w) place
    go l (suc (suc p)) e f = absurd (omega arith)

-- ERRORS: minus the code and then minus the constant is minus the word of the message
pub left : (q y a l : ℕ) → 0 < q → sub_mod q (sub_mod q y (l % q)) a ≡ sub_mod q y ((a + l) % q)
left q y a l h = sym (sub_mod_is q y ((a + l) % q) (sub_mod q (sub_mod q y (l % q)) a) h (sub_mod_lt q _ a h) back)
  where
    z : ℕ
    z = sub_mod q (sub_mod q y (l % q)) a

    back : (sub_mod q (sub_mod q y (l % q)) a + (a + l) % q) % q ≡ y % q
    back =
        ap (λ x. x % q) (add_comm (sub_mod q (sub_mod q y (l % q)) a) ((a + l) % q)) ∙ mod-add-mod (a + l) q (sub_mod q (sub_mod q y (l % q)) a)
        ∙ reordered (sub_mod q (sub_mod q y (l % q)) a) a l
        ∙ sym (mod-add-mod (sub_mod q (sub_mod q y (l % q)) a + a) q l)
        ∙ ap (λ x. (x + l) % q) (add_sub_mod q (sub_mod q y (l % q)) a h ∙ mod-eq_of_lt (sub_mod_lt q y (l % q) h) ∙ sub_mod_mod q y l)
        ∙ add_sub_mod q y l h
      where
        reordered : (x a l : ℕ) → (a + l + x) % q ≡ (x + a + l) % q
        reordered x a l = let e : a + l + x ≡ x + a + l = omega arith in ap (λ b. b % q) e

-- a place has an error or it has none
right_or_wrong : (x : ℕ) → same x 0 + differ 0 x ≡ 1
right_or_wrong zero = omega (arith, same_eq 0 0 refl, differ_eq 0 0 refl)
right_or_wrong (suc x) = omega (arith, same_ne (suc x) 0 (λ e. absurd (omega (arith, e))), differ_ne 0 (suc x) (λ e. absurd (omega (arith, e))))

-- THE PLACES WITHOUT AN ERROR are counted by the marks of their lanes
module _ (e : ℕ) (f : ℕ → ℕ) (l : Lanes e (λ t. f (offset t))) where
  at_lane : (t i : ℕ) → t < 16 → offset t ≡ i → same (digit 4 e t) 0 ≡ same (f i) 0
  at_lane t i h k = ap (λ z. same z 0) (l t h ∙ ap f k)

  pub first_four : marked_equal e 0 0x0101_0101 + sum 4 (λ i. differ 0 (f i)) ≡ 4
  unfolding marked_equal sum digit offset
  first_four =
      omega (
        arith,
        at_lane 0 0 (omega arith) refl,
        at_lane 2 1 (omega arith) refl,
        at_lane 4 2 (omega arith) refl,
        at_lane 6 3 (omega arith) refl,
        right_or_wrong (f 0),
        right_or_wrong (f 1),
        right_or_wrong (f 2),
        right_or_wrong (f 3),
      )

  pub first_eight : marked_equal e 0 0x0101_0101_0101_0101 + sum 8 (λ i. differ 0 (f i)) ≡ 8
  unfolding marked_equal sum digit offset
  first_eight =
      omega (
        arith,
        at_lane 0 0 (omega arith) refl,
        at_lane 2 1 (omega arith) refl,
        at_lane 4 2 (omega arith) refl,
        at_lane 6 3 (omega arith) refl,
        at_lane 8 4 (omega arith) refl,
        at_lane 10 5 (omega arith) refl,
        at_lane 12 6 (omega arith) refl,
        at_lane 14 7 (omega arith) refl,
        right_or_wrong (f 0),
        right_or_wrong (f 1),
        right_or_wrong (f 2),
        right_or_wrong (f 3),
        right_or_wrong (f 4),
        right_or_wrong (f 5),
        right_or_wrong (f 6),
        right_or_wrong (f 7),
      )

  pub second_eight : marked_equal e 0 0x1010_1010_1010_1010 + sum 8 (λ i. differ 0 (f (8 + i))) ≡ 8
  unfolding marked_equal sum digit offset
  second_eight =
      omega (
        arith,
        at_lane 1 8 (omega arith) refl,
        at_lane 3 9 (omega arith) refl,
        at_lane 5 10 (omega arith) refl,
        at_lane 7 11 (omega arith) refl,
        at_lane 9 12 (omega arith) refl,
        at_lane 11 13 (omega arith) refl,
        at_lane 13 14 (omega arith) refl,
        at_lane 15 15 (omega arith) refl,
        right_or_wrong (f 8),
        right_or_wrong (f 9),
        right_or_wrong (f 10),
        right_or_wrong (f 11),
        right_or_wrong (f 12),
        right_or_wrong (f 13),
        right_or_wrong (f 14),
        right_or_wrong (f 15),
      )

-- A WORD of 8 places, and one of 4, stands in lanes
pub held_eight : (w : List ℕ) (x : ℕ) → length w ≡ 8 → Low w → ((l : ℕ) → l < 8 → digit 8 x l ≡ at w (0 + l)) → Held w 0 x
held_eight w x e low h = held_bytes w x (omega (arith, e)) (λ l k. h l k ∙ ap (at w) (zero-add l)) (all_low w low)

pub held_four : (w : List ℕ) (x : ℕ) → length w ≡ 4 → Low w → Holds 4 x (from w 0) → Held w 0 x
held_four w x e low h = held_bytes w x (omega (arith, e)) (λ l k. go l (dec_lt l 4)) (all_low w low)
  where
    go : (l : ℕ) → Dec (l < 4) → digit 8 x l ≡ at w l
    go l (yes k) = h.each l k ∙ ap (at w) (zero-add l)
    go l (no k) = digit_past 8 4 x l h.fits (omega arith) ∙ sym (get_or-eq_default w 0 {n = l} (omega (arith, e)))
