-- A block transposed, and the rows that blocks make. Assumes nothing.
use Prim.Native.Nat.{ℕ, ◌+◌, ◌*◌, ◌-◌, ◌≤◌, ◌<◌}
use mathlib.Core.Path.{◌≡◌, refl, ap, ap₂, sym, subst₂, ◌∙◌}
use mathlib.Core.Bool.{Bool, true, false}
use mathlib.Core.List.{List}
use native.Mathlib.Nat.{zero-add, add-mul}
use native.Mathlib.Omega.{arith}
use lib.Dec.{ltb}
use lib.ListN.{length}
use borrow.Author.Tests.{ltb-true, ltb-false}
use Rattle.code_theory.specs.Sum.{at}
use Rattle.interleave_theory.specs.Place.{transposed}
use Rattle.interleave_theory.specs.Internal.{Transposes}
use Rattle.interleave_theory.proofs.PlaceLaws.{one_row, one_column, column_lt, across_at, transposed_is, transposes_by_rows}
use Rattle.interleave_block.specs.Internal.{RowsCopied, Done}

-- place k of row r of a block, by the rows and columns of the whole
in_block : (a s w r k : ℕ) → (s + r) * a + (w + k) ≡ s * a + w + r * a + k
in_block a s w r k = omega (arith, add-mul s r a)

module _ (a b s w : ℕ) (x empty rows columns y z : List ℕ) (hw : w + 16 ≤ a)
    (taken : RowsCopied 16 x (w * b + s) b empty rows 0 16) (turned : Transposes 16 16 rows columns) (put : RowsCopied 16 columns 0 16 y z (s * a + w) a) where
  -- column r of the source's part is row r of the target's
  block_moved : (r k : ℕ) → r < 16 → k < 16 → at z ((s + r) * a + (w + k)) ≡ at x ((w + k) * b + (s + r))
  block_moved r k hr hk =
      ap (at z) (in_block a s w r k) ∙ put.copied r k hr hk
      ∙ ap (λ i. at columns (i + k)) (zero-add (r * 16))
      ∙ turned.places (r * 16 + k) (column_lt 16 16 k r hk hr)
      ∙ ap (at rows) (across_at 16 16 k r hk)
      ∙ ap (λ i. at rows (i + r)) (sym (zero-add (k * 16)))
      ∙ taken.copied k r hk hr
      ∙ ap (at x) (sym (in_block b w s k r))

  -- what stands in no row or in no column of the block is as before
  block_kept_row : (u v : ℕ) → u < s → v < a → at z (u * a + v) ≡ at y (u * a + v)
  block_kept_row u v hu hv = put.kept (u * a + v) (λ r k hr hk e.
      let f : u ≡ s + r = one_row a u v (s + r) (w + k) hv (omega (arith, hw, hk)) (e ∙ sym (in_block a s w r k)) in
      omega (arith, f, hu))

  block_kept_column : (u v : ℕ) → v < w → at z (u * a + v) ≡ at y (u * a + v)
  block_kept_column u v hv = put.kept (u * a + v) (λ r k hr hk e.
      let f : v ≡ w + k = one_column a u v (s + r) (w + k) (omega (arith, hv, hw)) (omega (arith, hw, hk)) (e ∙ sym (in_block a s w r k)) in
      omega (arith, f, hv))

  -- ONE BLOCK MORE
  pub block_done : Done a b s w x y → Done a b s (w + 16) x z
  block_done d = record {
    size = put.size ∙ d.size;
    rows = λ u v hu hv. block_kept_row u v hu hv ∙ d.rows u v hu hv;
    part = λ u v hu hv. go u v hu hv (ltb v w) refl (ltb u s) refl;
  }
    where
      go : (u v : ℕ) → u < s + 16 → v < w + 16 → (l : Bool) → ltb v w ≡ l → (m : Bool) → ltb u s ≡ m → at z (u * a + v) ≡ at x (v * b + u)
      go u v hu hv true e m f = let l = ltb-true v w e in block_kept_column u v l ∙ d.part u v hu l
      go u v hu hv false e true f =
          let l : v < a = omega (arith, hv, hw) in
          block_kept_row u v (ltb-true u s f) l ∙ d.rows u v (ltb-true u s f) l
      go u v hu hv false e false f =
          let l = ltb-false v w e in
          let m = ltb-false u s f in
          let row : s + (u - s) ≡ u = omega (arith, m) in
          let place : w + (v - w) ≡ v = omega (arith, l) in
          ap₂ (λ i j. at z (i * a + j)) (sym row) (sym place) ∙ block_moved (u - s) (v - w) (omega (arith, hu, m)) (omega (arith, hv, l))
          ∙ ap₂ (λ i j. at x (i * b + j)) place row

-- sixteen rows that are done as far as they go are sixteen rows more
pub done_rows : (a b s : ℕ) (x y : List ℕ) → Done a b s a x y → Done a b (s + 16) 0 x y
done_rows a b s x y d = record { size = d.size; rows = d.part; part = λ u v hu hv. absurd (omega (arith, hv)) }

-- the same with other words for the two numbers
pub done_as : (a b s s' w w' : ℕ) (x y : List ℕ) → s ≡ s' → w ≡ w' → Done a b s w x y → Done a b s' w' x y
done_as a b s s' w w' x y e f d = subst₂ (λ i j. Done a b i j x y) e f d

-- at the start nothing is done, and at the end everything
pub none_done : (a b : ℕ) (x y : List ℕ) → length y ≡ a * b → Done a b 0 0 x y
none_done a b x y h = record { size = h; rows = λ u v hu. absurd (omega (arith, hu)); part = λ u v hu hv. absurd (omega (arith, hv)) }

pub all_done : (a b : ℕ) (x y : List ℕ) → Done a b b 0 x y → y ≡ transposed a b x
all_done a b x y d = transposed_is a b x y d.size (transposes_by_rows a b x y d.rows)
