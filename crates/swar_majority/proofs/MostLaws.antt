-- The value that most of some lanes have is read off the counts of their bits. Assumes nothing.
use Prim.Native.Nat.{ℕ, ◌+◌, ◌*◌, ◌/◌, ◌%◌, ◌≤◌, ◌<◌}
use mathlib.Core.Path.{◌≡◌, ap, ap₂, sym, ◌∙◌, subst}
use native.Mathlib.Decide.{ℕ_discrete}
use native.Mathlib.Omega.{arith}
use native.Mathlib.Nat.{zero-add, div-one, mod-eq_of_lt}
use lib.Pow.{mod-pow-add}
use lib.Bits.{bit_and, and_mask}
use Rattle.code_theory.specs.Index.{bit}
use Rattle.code_theory.specs.Modular.{same}
use Rattle.code_theory.proofs.IndexLaws.{bit_lt, by_bit}
use Rattle.code_theory.proofs.ModularLaws.{same_eq, same_ne}
use Rattle.swar_theory.specs.Internal.{digit}
use Rattle.swar_majority.specs.Internal.{three_of, seven_of, fifteen_of, Most, Carry, Down, seven_bits, Counted}
use Rattle.swar_majority.proofs.BitLaws.{lane_bit_lem}

-- what a count of bits tells: of n lanes, s are v and k have bit j set, where bit j of v is w
record Tells (n w k s : ℕ) : Type 0 where
  set : w ≡ 1 → s ≤ k
  clear : w ≡ 0 → k + s ≤ n

-- what the counts of two sets of lanes tell, the sums of the counts tell of both sets
both : {n m w k l s t : ℕ} → Tells n w k s → Tells m w l t → Tells (n + m) w (k + l) (s + t)
both p q = record {
  set = λ e. omega (arith, p.set e, q.set e);
  clear = λ e. omega (arith, p.clear e, q.clear e);
}

-- what bit j tells of one lane, of three lanes and of seven
module _ (d v j : ℕ) (h : j < 3) where
  tells : (t : ℕ) → Tells 1 (bit j v) (bit (4 * t + j) d) (same (digit 4 d t) v)
  tells t = go (ℕ_discrete (digit 4 d t) v)
    where
      go : Dec (digit 4 d t ≡ v) → Tells 1 (bit j v) (bit (4 * t + j) d) (same (digit 4 d t) v)
      go (yes e) = record {
        set = λ w. omega (arith, lane_bit_lem d t j h, ap (bit j) e, same_eq _ _ e);
        clear = λ w. omega (arith, lane_bit_lem d t j h, ap (bit j) e, same_eq _ _ e);
      }
      go (no n) = record {
        set = λ w. omega (arith, same_ne _ _ n);
        clear = λ w. omega (arith, same_ne _ _ n, bit_lt (4 * t + j) d);
      }

  tells_first : Tells 1 (bit j v) (bit j d) (same (digit 4 d 0) v)
  tells_first = subst (λ i. Tells 1 (bit j v) (bit i d) (same (digit 4 d 0) v)) (zero-add j) (tells 0)

  three_tell : (a b : ℕ) → Tells 3 (bit j v) (bit j d + bit (4 * a + j) d + bit (4 * b + j) d) (three_of d a b v)
  unfolding three_of
  three_tell a b = both (both tells_first (tells a)) (tells b)

  seven_tell : (a b c : ℕ) → Tells 7 (bit j v) (seven_bits d a b c j) (seven_of d a b c v)
  unfolding seven_bits seven_of
  seven_tell a b c = both (both (both (both (both (both tells_first (tells a)) (tells b)) (tells (a + b))) (tells c)) (tells (c + a))) (tells (c + b))

-- a number modulo 8 is given by its three lowest bits
low_bits : (x : ℕ) → x % 8 ≡ bit 2 x * 4 + (bit 1 x * 2 + bit 0 x)
unfolding bit
low_bits x = mod-pow-add x 1 2 ∙ ap (λ y. x / 4 % 2 * 4 + y) (mod-pow-add x 1 1 ∙ ap (λ y. x / 2 % 2 * 2 + y % 2) (sym (div-one x)))

low_three : (x v : ℕ) → v < 8 → ((j : ℕ) → j < 3 → bit j x ≡ bit j v) → x % 8 ≡ v
low_three x v h e =
    low_bits x
    ∙ ap₂ (λ u w. u * 4 + w) (e 2 (omega arith)) (ap₂ (λ u w. u * 2 + w) (e 1 (omega arith)) (e 0 (omega arith)))
    ∙ sym (low_bits v) ∙ mod-eq_of_lt h

-- a number whose three lowest bits are those of any v that n lanes or more have is that v modulo 8
most : (n : ℕ) (f : ℕ → ℕ) (x : ℕ) → ((v : ℕ) → n ≤ f v → (j : ℕ) → j < 3 → bit j x ≡ bit j v) → Most 8 n f (bit_and x 7)
most n f x h = record {
  fits = omega (arith, and_mask x 3);
  is = λ v l k. and_mask x 3 ∙ low_three x v l (h v k);
}

-- MOST OF THREE lanes: the carry has the bits of a value that two of them have
pub most_three : {d a b da db x : ℕ} → Down d a da → Down d b db → Carry d da db x → Most 8 2 (three_of d a b) (bit_and x 7)
most_three {d = d} {a = a} {b = b} {x = x} ha hb hx = most 2 (three_of d a b) x each
  where
    each : (v : ℕ) → 2 ≤ three_of d a b v → (j : ℕ) → j < 3 → bit j x ≡ bit j v
    each v k j h =
        let p = three_tell d v j h a b in
        by_bit (bit j v) (bit_lt j v)
        (λ e. omega (arith, p.clear e, hx.high j, ha.moved j, hb.moved j))
        (λ e. omega (arith, p.set e, hx.high j, ha.moved j, hb.moved j, bit_lt j x))

-- MOST OF SEVEN lanes: fours has the bits of a value that four of them have
pub most_seven : {d a b c ones twos fours : ℕ} → Counted d a b c ones twos fours → Most 8 4 (seven_of d a b c) (bit_and fours 7)
most_seven {d = d} {a = a} {b = b} {c = c} {ones = ones} {twos = twos} {fours = fours} n = most 4 (seven_of d a b c) fours each
  where
    each : (v : ℕ) → 4 ≤ seven_of d a b c v → (j : ℕ) → j < 3 → bit j fours ≡ bit j v
    each v k j h =
        let p = seven_tell d v j h a b c in
        by_bit (bit j v) (bit_lt j v)
        (λ e. omega (arith, p.clear e, n.count j))
        (λ e. omega (arith, p.set e, n.count j, bit_lt j ones, bit_lt j twos, bit_lt j fours))

-- three carries give the eights of the sum of two counts and a bit
eights : {f₁ f₂ f₄ g₁ g₂ g₄ z x y r : ℕ} → Carry f₁ g₁ z x → Carry f₂ g₂ x y → Carry f₄ g₄ y r
    → (j : ℕ) → bit j r ≡ (bit j f₁ + 2 * bit j f₂ + 4 * bit j f₄ + (bit j g₁ + 2 * bit j g₂ + 4 * bit j g₄) + bit j z) / 8
eights hx hy hr j = omega (arith, hx.high j, hy.high j, hr.high j)

-- MOST OF FIFTEEN lanes: the eights of the sum have the bits of a value that eight of them have
pub most_fifteen : {d e a b c f₁ f₂ f₄ g₁ g₂ g₄ z x y r : ℕ} → Counted d a b c f₁ f₂ f₄ → Counted e a b c g₁ g₂ g₄
    → Down e (a + b + c) z → Carry f₁ g₁ z x → Carry f₂ g₂ x y → Carry f₄ g₄ y r → Most 8 8 (fifteen_of d e a b c) (bit_and r 7)
unfolding fifteen_of
most_fifteen {d = d} {e = e} {a = a} {b = b} {c = c} {r = r} n m hz hx hy hr = most 8 (fifteen_of d e a b c) r each
  where
    each : (v : ℕ) → 8 ≤ fifteen_of d e a b c v → (j : ℕ) → j < 3 → bit j r ≡ bit j v
    each v k j h =
        let p = both (both (seven_tell d v j h a b c) (seven_tell e v j h a b c)) (tells e v j h (a + b + c)) in
        by_bit (bit j v) (bit_lt j v)
        (λ w. omega (arith, p.clear w, n.count j, m.count j, hz.moved j, eights hx hy hr j))
        (λ w. omega (arith, p.set w, n.count j, m.count j, hz.moved j, eights hx hy hr j, bit_lt j r))
