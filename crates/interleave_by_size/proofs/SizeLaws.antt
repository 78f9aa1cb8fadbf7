-- A group of which one number is known. Assumes nothing.
use Prim.Native.Nat.{ℕ, zero, suc, ◌+◌, ◌*◌, ◌<◌}
use mathlib.Core.Path.{◌≡◌, ap, sym, ◌∙◌}
use mathlib.Core.List.{List}
use native.Mathlib.Nat.{mul_comm, zero-mul}
use native.Mathlib.Omega.{arith}
use Rattle.code_theory.specs.Sum.{at}
use Rattle.interleave_theory.specs.Place.{transposed}
use Rattle.interleave_theory.proofs.PlaceLaws.{goes, transposed_length, transposed_is, transposes_by_rows}

pub size_by_rows : (a k b size : ℕ) → a ≡ k → size ≡ a * b → size ≡ k * b
size_by_rows a k b size e h = h ∙ ap (λ n. n * b) e

pub size_by_columns : (a b k size : ℕ) → b ≡ k → size ≡ a * b → size ≡ a * k
size_by_columns a b k size e h = h ∙ ap (λ n. a * n) e

pub by_rows : (a k b : ℕ) (x y : List ℕ) → a ≡ k → y ≡ transposed k b x → y ≡ transposed a b x
by_rows a k b x y e h = h ∙ ap (λ n. transposed n b x) (sym e)

pub by_columns : (a b k : ℕ) (x y : List ℕ) → b ≡ k → y ≡ transposed a k x → y ≡ transposed a b x
by_columns a b k x y e h = h ∙ ap (λ n. transposed a n x) (sym e)

-- one row is one column
pub row_is_column : (n : ℕ) (x : List ℕ) → transposed n 1 x ≡ transposed 1 n x
row_is_column n x = transposed_is 1 n x (transposed n 1 x) (transposed_length n 1 x ∙ mul_comm n 1) (transposes_by_rows 1 n x (transposed n 1 x) go)
  where
    go : (s w : ℕ) → s < n → w < 1 → at (transposed n 1 x) (s * 1 + w) ≡ at x (w * n + s)
    go s zero h k =
        let e : s * 1 + 0 ≡ 0 * n + s = omega (arith, zero-mul n) in
        ap (at (transposed n 1 x)) e ∙ goes n 1 x s 0 h k ∙ ap (at x) e
    go s (suc w) h k = absurd (omega (arith, k))
