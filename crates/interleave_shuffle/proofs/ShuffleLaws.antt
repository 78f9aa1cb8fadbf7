-- Shuffles one after the other. Assumes nothing.
use Prim.Native.Nat.{ℕ, zero, suc, ◌+◌, ◌*◌, ◌^◌, ◌<◌}
use mathlib.Core.Path.{◌≡◌, refl, ap, sym, subst, ◌∙◌}
use mathlib.Core.List.{List}
use native.Mathlib.Nat.{zero-mul, one-mul, mul_comm, mul_assoc}
use native.Mathlib.Omega.{arith}
use lib.Pow.{pow_pos, pow-add}
use Rattle.code_theory.specs.Sum.{at}
use Rattle.interleave_theory.specs.Internal.{Transposes}
use Rattle.interleave_theory.proofs.PlaceLaws.{transposes_by_rows, transposes_twice}

-- after k shuffles y begins with the 2 * half symbols of x, 2 ^ k rows, transposed
pub record Rounds (k half : ℕ) (x y : List ℕ) : Type 0 where
  pub each : (b : ℕ) → 2 ^ k * b ≡ 2 * half → Transposes (2 ^ k) b x y

-- one row is as it was
pub rounds_none : (half : ℕ) (x y : List ℕ) → ((i : ℕ) → i < 2 * half → at y i ≡ at x i) → Rounds 0 half x y
rounds_none half x y f = record { each = λ b e. transposes_by_rows 1 b x y (go b e) }
  where
    go : (b : ℕ) → 1 * b ≡ 2 * half → (s w : ℕ) → s < b → w < 1 → at y (s * 1 + w) ≡ at x (w * b + s)
    go b e s zero hs hw =
        let g : s * 1 + 0 ≡ s = omega arith in
        let i : s ≡ 0 * b + s = omega (arith, zero-mul b) in
        ap (at y) g ∙ f s (omega (arith, e, hs, one-mul b)) ∙ ap (at x) i
    go b e s (suc w) hs hw = absurd (omega (arith, hw))

-- one shuffle more doubles the rows
pub rounds_next : (k half : ℕ) (x y z : List ℕ) → Rounds k half x y → Transposes 2 half y z → Rounds (k + 1) half x z
rounds_next k half x y z r turned = record {
  each = λ b e.
      let p : 2 ^ (k + 1) ≡ 2 ^ k * 2 = pow-add 2 k 1 in
      let d : 2 ^ k * 2 * b ≡ 2 * (b * 2 ^ k) = mul_comm (2 ^ k * 2) b ∙ sym (mul_assoc b (2 ^ k) 2) ∙ mul_comm (b * 2 ^ k) 2 in
      let f : 2 ^ k * 2 * b ≡ 2 * half = ap (λ n. n * b) (sym p) ∙ e in
      let h : half ≡ b * 2 ^ k = omega (arith, d, f) in
      let g : 2 ^ k * (2 * b) ≡ 2 * half = sym (mul_assoc (2 ^ k) 2 b) ∙ f in
      subst (λ n. Transposes n b x z) (sym p)
      (transposes_twice (2 ^ k) 2 b x y z (pow_pos k) (omega arith) (r.each (2 * b) g) (subst (λ n. Transposes 2 n y z) h turned));
}

-- two shuffles transpose four rows
pub shuffled_twice : (b : ℕ) (x y z : List ℕ) → Transposes 2 (2 * b) x y → Transposes 2 (2 * b) y z → Transposes 4 b x z
shuffled_twice b x y z f g =
    (rounds_next 1 (2 * b) x y z (rounds_next 0 (2 * b) x x y (rounds_none (2 * b) x x (λ i h. refl)) f) g).each b (omega arith)

-- and four shuffles sixteen
pub shuffled_four_times : (b : ℕ) (x y z u v : List ℕ) → Transposes 2 (8 * b) x y → Transposes 2 (8 * b) y z → Transposes 2 (8 * b) z u → Transposes 2 (8 * b) u v
    → Transposes 16 b x v
shuffled_four_times b x y z u v f g h i =
    let once = rounds_next 0 (8 * b) x x y (rounds_none (8 * b) x x (λ j l. refl)) f in
    let twice = rounds_next 1 (8 * b) x y z once g in
    (rounds_next 3 (8 * b) x u v (rounds_next 2 (8 * b) x z u twice h) i).each b (omega arith)
