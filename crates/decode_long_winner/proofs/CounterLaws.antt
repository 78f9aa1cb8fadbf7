-- The counters of a tally, read one after the other. Assumes nothing.
use Prim.Native.Nat.{ℕ, ◌+◌, ◌*◌, ◌-◌, ◌/◌, ◌%◌, ◌^◌, ◌≤◌}
use mathlib.Core.Path.{◌≡◌, ap, sym, ◌∙◌}
use native.Mathlib.Nat.{div-one}
use native.Mathlib.Omega.{arith}
use lib.Pow.{shr-shr}
use Rattle.swar_theory.specs.Internal.{digit}

pub digit_first : (t a : ℕ) → a ≡ t % 256 → a ≡ digit 8 t 0
unfolding digit
digit_first t a e = e ∙ ap (λ x. x % 256) (sym (div-one t))

pub digit_start : (t : ℕ) → t ≡ t / 2 ^ (8 * (1 - 1))
digit_start t = sym (div-one t)

shift : (t v a : ℕ) → 1 ≤ v → a ≡ t / 2 ^ (8 * (v - 1)) → a / 256 ≡ t / 2 ^ (8 * v)
shift t v a h e =
    let f : 8 * (v - 1) + 8 ≡ 8 * v = omega arith in
    ap (λ x. x / 256) e ∙ shr-shr t (8 * (v - 1)) 8 ∙ ap (λ x. t / 2 ^ x) f

pub digit_next : (t v a x : ℕ) → 1 ≤ v → a ≡ t / 2 ^ (8 * (v - 1)) → x ≡ a / 256 % 256 → x ≡ digit 8 t v
unfolding digit
digit_next t v a x h e f = f ∙ ap (λ y. y % 256) (shift t v a h e)

pub digit_shift : (t v a : ℕ) → 1 ≤ v → a ≡ t / 2 ^ (8 * (v - 1)) → a / 256 ≡ t / 2 ^ (8 * (v + 1 - 1))
digit_shift t v a h e = let f : v ≡ v + 1 - 1 = omega arith in shift t v a h e ∙ ap (λ x. t / 2 ^ (8 * x)) f
