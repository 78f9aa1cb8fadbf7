-- The table of pairs, filled row by row. Assumes nothing.
use Prim.Native.Nat.{ℕ, ◌+◌, ◌*◌, ◌^◌, ◌≤◌, ◌<◌}
use mathlib.Core.Path.{◌≡◌, refl, ap, ap₂, sym, ◌∙◌, subst}
use mathlib.Core.Logic.{◌⊎◌, inl, inr}
use mathlib.Core.List.{List}
use native.Mathlib.Omega.{arith}
use native.Mathlib.Numerals.{add-one}
use native.Mathlib.Nat.{not-suc-le-zero, le_of_suc-le-suc, eq-or-lt_of_le}
use lib.ListN.{length, set, length-set}
use lib.Seq.{get_or-set_same, get_or-set_other}
use Rattle.code_theory.specs.Sum.{at}
use Rattle.decode_long_tally.specs.Internal.{Pairs, Row}

pub row_none : (b : ℕ) (u : List ℕ) → length u ≡ 128 → Row b u u 0
row_none b u e = record { size = e; each = λ a l. absurd (not-suc-le-zero l); below = λ i l. refl }

pub row_next : (b n : ℕ) (u v : List ℕ) (p q : ℕ) → Row b u v n → n < 8 → b < 8 → p ≡ 256 ^ n → q ≡ 256 ^ b → Row b u (set v (n + 16 * b) (p + q)) (n + 1)
row_next b n u v p q r l k e f = record {
  size = length-set v _ _ ∙ r.size;
  each = λ a h. go a (eq-or-lt_of_le (le_of_suc-le-suc (subst (λ z. a < z) (add-one n) h)));
  below = λ i h. get_or-set_other v _ i _ 0 (λ z. absurd (omega (arith, z))) ∙ r.below i h;
}
  where
    go : (a : ℕ) → (a ≡ n) ⊎ (a < n) → at (set v (n + 16 * b) (p + q)) (a + 16 * b) ≡ 256 ^ a + 256 ^ b
    go a (inl z) =
        ap (λ y. at (set v (n + 16 * b) (p + q)) (y + 16 * b)) z ∙ get_or-set_same v (n + 16 * b) (p + q) 0 (omega (arith, r.size))
        ∙ ap₂ (λ x y. x + y) e f ∙ ap (λ y. 256 ^ y + 256 ^ b) (sym z)
    go a (inr z) = get_or-set_other v _ (a + 16 * b) _ 0 (λ y. absurd (omega (arith, y))) ∙ r.each a z

pub row_all : (b n : ℕ) (u v : List ℕ) → n ≡ 8 → Row b u v n → Row b u v 8
row_all b n u v e r = rw e at r

pub rows_none : (u : List ℕ) → length u ≡ 128 → Pairs 0 u
rows_none u e = record { size = e; each = λ a b l k. absurd (not-suc-le-zero k) }

pub rows_next : (b : ℕ) (u v : List ℕ) → b < 8 → Pairs b u → Row b u v 8 → Pairs (b + 1) v
rows_next b u v l h r = record { size = r.size; each = λ a c i k. go a c i (eq-or-lt_of_le (le_of_suc-le-suc (subst (λ z. c < z) (add-one b) k))) }
  where
    go : (a c : ℕ) → a < 8 → (c ≡ b) ⊎ (c < b) → at v (a + 16 * c) ≡ 256 ^ a + 256 ^ c
    go a c i (inl z) = ap (λ y. at v (a + 16 * y)) z ∙ r.each a i ∙ ap (λ y. 256 ^ a + 256 ^ y) (sym z)
    go a c i (inr z) = r.below (a + 16 * c) (omega arith) ∙ h.each a c i z

pub rows_all : (n q : ℕ) (u : List ℕ) → q ≤ n → Pairs n u → Pairs q u
rows_all n q u e r = record { size = r.size; each = λ a b l k. r.each a b l (omega arith) }
