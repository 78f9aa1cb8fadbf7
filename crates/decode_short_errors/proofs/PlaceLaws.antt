-- Sums modulo q in lanes, and the word of four coefficients. Assumes nothing.
use Prim.Native.Nat.{ℕ, ◌+◌, ◌*◌, ◌-◌, ◌%◌, ◌≤◌, ◌<◌}
use mathlib.Core.Path.{◌≡◌, refl, ap, ap₂, ◌∙◌}
use mathlib.Core.Bool.{true}
use native.Mathlib.Omega.{arith}
use native.Mathlib.Nat.{mod-lt, mod-add-mod, mul-le-mul_left, mul-one, zero-add}
use lib.Dec.{eqb}
use lib.Bits.{bit_and}
use mathlib.Core.List.{List}
use Rattle.code_theory.specs.Sum.{every, at}
use Rattle.code_theory.specs.Index.{bit}
use Rattle.code_theory.specs.Modular.{sub_mod}
use Rattle.code_theory.specs.Question.{is_alphabet}
use Rattle.code_theory.proofs.QuestionLaws.{alphabet, alphabet_bounds, alphabet_positive, mask_mod}
use Rattle.swar_theory.specs.Internal.{digit}
use Rattle.swar_theory.proofs.DigitLaws.{digit_and, digit_add, add_lt, digit_times, times_lt}
use Rattle.swar_lanes.specs.Internal.{offset, Lanes, LanesBelow}
use Rattle.swar_lanes.proofs.LaneLaws.{lanes_are, none_lanes, mask_lane, spread_lanes}
use Rattle.swar_count.specs.Internal.{Mask}
use Rattle.decode_short_errors.specs.Internal.{plain}

-- a times a mark, 0 or 1, is at most a
part_le : (a d : ℕ) → d ≤ 1 → a * d ≤ a
part_le a d h = omega (arith, mul-le-mul_left a h, mul-one a)

-- a times a mask has a or 0 in each lane, which is below q
module _ (q a marks : ℕ) (al : is_alphabet q ≡ true) (hm : marks < 18446744073709551616) (ba : a < q) (mk : Mask marks) where
  few : (2 ≤ q) × (q ≤ 8)
  few = alphabet_bounds q (alphabet q al)

  part_fits : (t : ℕ) → t < 16 → a * digit 4 marks t < 16
  part_fits t h = omega (arith, part_le a (digit 4 marks t) (mk t h), few)

  pub part_lt : a * marks < 18446744073709551616
  part_lt = times_lt 4 16 a marks hm part_fits

  part_lane : (t : ℕ) → t < 16 → digit 4 (a * marks) t ≡ a * digit 4 marks t
  part_lane = digit_times 4 16 a marks hm part_fits

  pub part_below : LanesBelow q (a * marks)
  part_below t h = omega (arith, part_lane t h, part_le a (digit 4 marks t) (mk t h))

  -- the lanes of c plus a in the marked lanes, modulo q
  module _ (c : ℕ) (hc : c < 18446744073709551616) (bc : LanesBelow q c) where
    fits : (t : ℕ) → t < 16 → digit 4 c t + digit 4 (a * marks) t < 16
    fits t h = omega (arith, part_below t h, bc t h, few)

    pub plus_lt : c + a * marks < 18446744073709551616
    plus_lt = add_lt 4 16 c (a * marks) hc part_lt fits

    pub plus_is : Lanes (bit_and (c + a * marks) ((q - 1) * 0x1111_1111_1111_1111)) (λ t. (digit 4 c t + a * digit 4 marks t) % q)
    plus_is t h =
        digit_and 4 (c + a * marks) ((q - 1) * 0x1111_1111_1111_1111) t
        ∙ ap₂ bit_and (digit_add 4 16 c (a * marks) hc part_lt fits t h ∙ ap (λ z. digit 4 c t + z) (part_lane t h)) (mask_lane q al t h)
        ∙ mask_mod q _ (alphabet q al)

pub plus_below : (q r : ℕ) (f : ℕ → ℕ) → is_alphabet q ≡ true → Lanes r (λ t. f t % q) → LanesBelow q r
plus_below q r f al e t h = omega (arith, e t h, mod-lt (f t) (alphabet_positive q al))

-- the literals that mark the places whose bit k is 1
marks_are : (k x : ℕ) → every 16 (λ t. eqb (digit 4 x t) (bit k (offset t))) ≡ true → Lanes x (λ t. bit k (offset t))
marks_are k x e = lanes_are x (λ t. bit k (offset t)) e

marks_0 : Lanes 0x1100_1100_1100_1100 (λ t. bit 0 (offset t))
unfolding every digit bit offset
marks_0 = marks_are 0 0x1100_1100_1100_1100 refl

marks_1 : Lanes 0x1111_0000_1111_0000 (λ t. bit 1 (offset t))
unfolding every digit bit offset
marks_1 = marks_are 1 0x1111_0000_1111_0000 refl

marks_2 : Lanes 0x1111_1111_0000_0000 (λ t. bit 2 (offset t))
unfolding every digit bit offset
marks_2 = marks_are 2 0x1111_1111_0000_0000 refl

marks_3 : Lanes 0x1010_1010_1010_1010 (λ t. bit 3 (offset t))
unfolding every digit bit offset
marks_3 = marks_are 3 0x1010_1010_1010_1010 refl

-- THE CODE is computed one coefficient after the other
pub code_is : (q : ℕ) (d : List ℕ) (x0 x1 x2 x3 : ℕ)
    → Lanes x0 (λ t. (digit 4 0 t + at d 1 * digit 4 0x1100_1100_1100_1100 t) % q)
    → Lanes x1 (λ t. (digit 4 x0 t + at d 2 * digit 4 0x1111_0000_1111_0000 t) % q)
    → Lanes x2 (λ t. (digit 4 x1 t + at d 3 * digit 4 0x1111_1111_0000_0000 t) % q)
    → Lanes x3 (λ t. (digit 4 x2 t + at d 4 * digit 4 0x1010_1010_1010_1010 t) % q)
    → Lanes x3 (λ t. plain q d (offset t))
unfolding plain
code_is q d x0 x1 x2 x3 e0 e1 e2 e3 t h =
    e3 t h ∙ ap₂ (λ x y. (x + at d 4 * y) % q) (e2 t h) (marks_3 t h) ∙ mod-add-mod _ q _
    ∙ ap₂ (λ x y. (x + at d 3 * y + at d 4 * bit 3 (offset t)) % q) (e1 t h) (marks_2 t h)
    ∙ shift (digit 4 x0 t + at d 2 * digit 4 0x1111_0000_1111_0000 t) (at d 3 * bit 2 (offset t)) (at d 4 * bit 3 (offset t))
    ∙ ap₂ (λ x y. (x + at d 2 * y + at d 3 * bit 2 (offset t) + at d 4 * bit 3 (offset t)) % q) (e0 t h) (marks_1 t h)
    ∙ shift2 (digit 4 0 t + at d 1 * digit 4 0x1100_1100_1100_1100 t) (at d 2 * bit 1 (offset t)) (at d 3 * bit 2 (offset t)) (at d 4 * bit 3 (offset t))
    ∙ ap₂ (λ x y. (x + at d 1 * y + at d 2 * bit 1 (offset t) + at d 3 * bit 2 (offset t) + at d 4 * bit 3 (offset t)) % q) (none_lanes t h) (marks_0 t h)
    ∙ ap (λ x. (x + at d 2 * bit 1 (offset t) + at d 3 * bit 2 (offset t) + at d 4 * bit 3 (offset t)) % q) (zero-add (at d 1 * bit 0 (offset t)))
  where
    shift : (a b c : ℕ) → (a % q + b + c) % q ≡ (a + b + c) % q
    shift a b c =
        let e : a % q + b + c ≡ a % q + (b + c) = omega arith in
        let f : a + (b + c) ≡ a + b + c = omega arith in
        ap (λ x. x % q) e ∙ mod-add-mod a q (b + c) ∙ ap (λ x. x % q) f

    shift2 : (a b c d : ℕ) → (a % q + b + c + d) % q ≡ (a + b + c + d) % q
    shift2 a b c d =
        let e : a % q + b + c + d ≡ a % q + (b + c + d) = omega arith in
        let f : a + (b + c + d) ≡ a + b + c + d = omega arith in
        ap (λ x. x % q) e ∙ mod-add-mod a q (b + c + d) ∙ ap (λ x. x % q) f

-- the symbols of a code are below q
plain_lt : (q : ℕ) (d : List ℕ) (i : ℕ) → 0 < q → plain q d i < q
unfolding plain
plain_lt q d i h = mod-lt _ h

pub plain_below : (q : ℕ) (d : List ℕ) (code : ℕ) → is_alphabet q ≡ true → Lanes code (λ t. plain q d (offset t)) → LanesBelow q code
plain_below q d code al e t h = omega (arith, e t h, plain_lt q d (offset t) (alphabet_positive q al))

-- THE ERRORS are the word minus the code, minus the constant
pub errors_are : (q x code a y r : ℕ) → is_alphabet q ≡ true → a < q
    → Lanes y (λ t. sub_mod q (digit 4 x t) (digit 4 code t))
    → Lanes r (λ t. sub_mod q (digit 4 y t) (digit 4 (a * 0x1111_1111_1111_1111) t))
    → Lanes r (λ t. sub_mod q (sub_mod q (digit 4 x t) (digit 4 code t)) a)
errors_are q x code a y r al l e f t h =
    f t h ∙ ap₂ (sub_mod q) (e t h) (spread_lanes a (omega (arith, alphabet_bounds q (alphabet q al))) t h)
