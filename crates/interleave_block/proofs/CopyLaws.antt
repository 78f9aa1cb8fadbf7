-- Copies of symbols and of rows, one more each time. Assumes nothing.
use Prim.Native.Nat.{ℕ, suc, ◌+◌, ◌*◌, ◌/◌, ◌%◌, ◌≤◌, ◌<◌}
use mathlib.Core.Path.{◌≡◌, refl, ap, sym, subst, subst₂, ◌∙◌}
use mathlib.Core.Logic.{◌⊎◌, inl, inr}
use mathlib.Core.List.{List}
use native.Mathlib.Nat.{add_assoc, suc-mul, mul-le-mul_right}
use native.Mathlib.Omega.{arith}
use lib.ListN.{length, set, length-set}
use lib.Seq.{get_or-set_same, get_or-set_other}
use Rattle.code_theory.specs.Sum.{at}
use Rattle.interleave_theory.proofs.PlaceLaws.{last_or_before}
use Rattle.interleave_block.specs.Internal.{Copied, RowsCopied}

-- nothing is copied yet
pub copied_start : (x y : List ℕ) (i j : ℕ) → Copied 0 x i y y j
copied_start x y i j = record { size = refl; copied = λ k l. absurd (omega (arith, l)); kept = λ p h. refl }

pub rows_start : (x y : List ℕ) (i a j b : ℕ) → RowsCopied 0 x i a y y j b
rows_start x y i a j b = record { size = refl; copied = λ r k l _. absurd (omega (arith, l)); kept = λ p h. refl }

-- one symbol more
pub copied_next : (n : ℕ) (x : List ℕ) (i : ℕ) (z y : List ℕ) (j : ℕ) → j + n < length y → Copied n x i z y j → Copied (n + 1) x i z (set y (j + n) (at x (i + n))) j
copied_next n x i z y j h c = record {
  size = length-set y (j + n) (at x (i + n)) ∙ c.size;
  copied = λ k l. go k (last_or_before k n l);
  kept = λ p d. get_or-set_other y (j + n) p (at x (i + n)) 0 (d n (omega arith)) ∙ c.kept p (λ k l. d k (omega (arith, l)));
}
  where
    go : (k : ℕ) → (k ≡ n) ⊎ (k < n) → at (set y (j + n) (at x (i + n))) (j + k) ≡ at x (i + k)
    go k (inl e) = rw e (get_or-set_same y (j + n) (at x (i + n)) 0 h)
    go k (inr l) = get_or-set_other y (j + n) (j + k) (at x (i + n)) 0 (λ e. omega (arith, e, l)) ∙ c.copied k l

-- one row more, which touches none of those before it
pub rows_next : (n : ℕ) (x : List ℕ) (i a : ℕ) (z y y' : List ℕ) (j b : ℕ) → 16 ≤ b → RowsCopied n x i a z y j b → Copied 16 x (i + n * a) y y' (j + n * b)
    → RowsCopied (n + 1) x i a z y' j b
rows_next n x i a z y y' j b h c d = record {
  size = d.size ∙ c.size;
  copied = λ r k l m. go r k m (last_or_before r n l);
  kept = λ p e. d.kept p (λ k l. e n k (omega arith) l) ∙ c.kept p (λ r k l m. e r k (omega (arith, l)) m);
}
  where
    go : (r k : ℕ) → k < 16 → (r ≡ n) ⊎ (r < n) → at y' (j + r * b + k) ≡ at x (i + r * a + k)
    go r k m (inl e) = rw e (d.copied k m)
    go r k m (inr l) =
        d.kept (j + r * b + k) (λ k' m' e. omega (arith, e, h, m, mul-le-mul_right {m = suc r} {n = n} b l, suc-mul r b)) ∙ c.copied r k l m

-- as many as they are
pub copied_all : (n m : ℕ) (x : List ℕ) (i : ℕ) (z y : List ℕ) (j : ℕ) → n ≡ m → Copied n x i z y j → Copied m x i z y j
copied_all n m x i z y j e c = subst (λ k. Copied k x i z y j) e c

pub rows_all : (n : ℕ) (x : List ℕ) (i a : ℕ) (z y : List ℕ) (j b : ℕ) → n ≡ 16 → RowsCopied n x i a z y j b → RowsCopied 16 x i a z y j b
rows_all n x i a z y j b e c = subst (λ m. RowsCopied m x i a z y j b) e c

-- the same with other words for the two places
pub rows_as : (n : ℕ) (x : List ℕ) (i i' a : ℕ) (z y : List ℕ) (j j' b : ℕ) → i ≡ i' → j ≡ j' → RowsCopied n x i a z y j b → RowsCopied n x i' a z y j' b
rows_as n x i i' a z y j j' b e f c = subst₂ (λ k l. RowsCopied n x k a z y l b) e f c

-- 256 symbols are sixteen rows, every sixteen places
pub copied_rows : (x : List ℕ) (i : ℕ) (z y : List ℕ) (j : ℕ) → Copied 256 x i z y j → RowsCopied 16 x i 16 z y j 16
copied_rows x i z y j c = record {
  size = c.size;
  copied = λ r k hr hk. ap (at y) (add_assoc j (r * 16) k) ∙ c.copied (r * 16 + k) (omega (arith, hr, hk)) ∙ ap (at x) (sym (add_assoc i (r * 16) k));
  kept = λ p d. c.kept p (λ k h e. d (k / 16) (k % 16) (omega (arith, h)) (omega arith) (omega (arith, e)));
}
