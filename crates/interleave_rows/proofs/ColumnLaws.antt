-- What a loop over the rows of the source leaves behind it, one symbol more each time. Assumes nothing.
use Prim.Native.Nat.{ℕ, ◌+◌, ◌*◌, ◌≤◌, ◌<◌}
use mathlib.Core.Path.{◌≡◌, ◌∙◌}
use mathlib.Core.Logic.{◌⊎◌, inl, inr}
use mathlib.Core.List.{List}
use native.Mathlib.Omega.{arith}
use lib.ListN.{length, set}
use lib.Seq.{get_or-set_same, get_or-set_other}
use Rattle.code_theory.specs.Sum.{at}
use Rattle.interleave_theory.specs.Place.{transposed}
use Rattle.interleave_theory.proofs.PlaceLaws.{one_row, one_column, column_lt, last_or_before, transposed_is, transposes_by_rows}
use Rattle.interleave_rows.specs.Internal.{Scattered}

-- nothing is asked of a target before the first symbol
pub none_scattered : (a b : ℕ) (x y : List ℕ) → Scattered a b 0 0 x y
none_scattered a b x y = record { rows = λ s v _ h. absurd (omega (arith, h)); part = λ s h. absurd (omega (arith, h)) }

-- one symbol more: it goes to a place that none of those before it has
pub scattered_next : (a b w k : ℕ) (x y : List ℕ) → w < a → k < b → length y ≡ a * b → Scattered a b w k x y → Scattered a b w (k + 1) x (set y (k * a + w) (at x (w * b + k)))
scattered_next a b w k x y hw hk l h = record {
  rows = λ s v hs hv.
      get_or-set_other y (k * a + w) (s * a + v) (at x (w * b + k)) 0 (λ e. omega (arith, hv, one_column a s v k w (omega (arith, hv, hw)) hw e))
      ∙ h.rows s v hs hv;
  part = λ s m. go s (last_or_before s k m);
}
  where
    go : (s : ℕ) → (s ≡ k) ⊎ (s < k) → at (set y (k * a + w) (at x (w * b + k))) (s * a + w) ≡ at x (w * b + s)
    go s (inl e) = rw e (get_or-set_same y (k * a + w) (at x (w * b + k)) 0 (omega (arith, l, column_lt a b w k hw hk)))
    go s (inr m) =
        get_or-set_other y (k * a + w) (s * a + w) (at x (w * b + k)) 0 (λ e. omega (arith, m, one_row a s w k w hw hw e)) ∙ h.part s m

-- all symbols of a row are one row more
pub scattered_row : (a b w k : ℕ) (x y : List ℕ) → b ≤ k → Scattered a b w k x y → Scattered a b (w + 1) 0 x y
scattered_row a b w k x y l h = record { rows = λ s v hs hv. go s v hs (last_or_before v w hv); part = λ s m. absurd (omega (arith, m)) }
  where
    go : (s v : ℕ) → s < b → (v ≡ w) ⊎ (v < w) → at y (s * a + v) ≡ at x (v * b + s)
    go s v hs (inl e) = rw e (h.part s (omega (arith, l, hs)))
    go s v hs (inr m) = h.rows s v hs m

-- all rows are all symbols
pub scattered_all : (a b w k : ℕ) (x y : List ℕ) → a ≤ w → length y ≡ a * b → Scattered a b w k x y → y ≡ transposed a b x
scattered_all a b w k x y l n h = transposed_is a b x y n (transposes_by_rows a b x y (λ s v hs hv. h.rows s v hs (omega (arith, l, hv))))
