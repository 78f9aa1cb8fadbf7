-- A sum of units counts in its digits. Assumes nothing.
use Prim.Native.Nat.{ℕ, zero, suc, ◌+◌, ◌*◌, ◌^◌, ◌≤◌, ◌<◌}
use mathlib.Core.Path.{◌≡◌, refl, ap, ap₂, sym, ◌∙◌}
use mathlib.Core.Logic.{◌≢◌, ◌⊎◌, inl, inr}
use mathlib.Core.Bool.{Bool, true, ◌&&◌}
use mathlib.Core.List.{List, [], ◌∷◌}
use native.Mathlib.Nat.{pow-succ', not-suc-le-zero, le_of_suc-le-suc, eq-or-lt_of_le, add-mul, mul-one, one-mul, zero-mul, mul-zero, mul_assoc}
use native.Mathlib.Omega.{arith}
use borrow.Author.Tests.{eqb-true}
use lib.Dec.{eqb}
use lib.ListN.{length}
use lib.Pow.{pow-add}
use Rattle.code_theory.specs.Sum.{sum, at}
use Rattle.code_theory.specs.Index.{if_clear}
use Rattle.code_theory.specs.Modular.{same}
use Rattle.code_theory.specs.Vote.{count}
use Rattle.code_theory.proofs.SumLaws.{sum_ext, sum_const, sum_bound}
use Rattle.code_theory.proofs.ModularLaws.{same_eq, same_ne, same_le}
use Rattle.code_theory.proofs.QuestionLaws.{and_true}
use Rattle.swar_theory.specs.Internal.{digit, number}
use Rattle.swar_theory.proofs.DigitLaws.{number_digit}
use Rattle.decode_long_tally.specs.Internal.{Units}

-- one more in digit d
number_more : (n d : ℕ) (f g : ℕ → ℕ) → d < n → g d ≡ f d + 1 → ((v : ℕ) → v < n → v ≢ d → g v ≡ f v) → number 8 n g ≡ number 8 n f + 2 ^ (8 * d)
unfolding number sum
number_more zero d f g l e h = absurd (not-suc-le-zero l)
number_more (suc n) d f g l e h = go (eq-or-lt_of_le (le_of_suc-le-suc l)) (λ i. number_more n d f g i e (λ v j. h v (omega arith)))
  where
    go : (d ≡ n) ⊎ (d < n) → (d < n → number 8 n g ≡ number 8 n f + 2 ^ (8 * d)) → number 8 n g + g n * 2 ^ (8 * n) ≡ number 8 n f + f n * 2 ^ (8 * n) + 2 ^ (8 * d)
    go (inl z) ih =
        let a : number 8 n g ≡ number 8 n f = sum_ext n _ _ (λ v i. ap (λ x. x * 2 ^ (8 * v)) (h v (omega arith) (λ y. absurd (omega (arith, y, z))))) in
        let b : g n ≡ f n + 1 = ap g (sym z) ∙ e ∙ ap (λ x. f x + 1) z in
        omega (arith, a, ap (λ x. x * 2 ^ (8 * n)) b, add-mul (f n) 1 (2 ^ (8 * n)), one-mul (2 ^ (8 * n)), ap (λ x. 2 ^ (8 * x)) z)
    go (inr i) ih =
        omega (arith, ih i, ap (λ x. x * 2 ^ (8 * n)) (h n (omega arith) (λ y. absurd (omega (arith, y)))))

-- the unit of v, a one in digit v
power : (v : ℕ) → 256 ^ v ≡ 2 ^ (8 * v)
power zero = refl
power (suc v) = let e : 8 * suc v ≡ 8 + 8 * v = omega arith in pow-succ' 256 v ∙ ap (λ x. 256 * x) (power v) ∙ sym (pow-add 2 8 (8 * v)) ∙ ap (λ x. 2 ^ x) (sym e)

-- a sum of the units of the votes c 0 to c (n - 1) is the number whose digits are their counts
units_number : (q n : ℕ) (c : ℕ → ℕ) → ((i : ℕ) → i < n → c i < q) → sum n (λ i. 256 ^ c i) ≡ number 8 q (count n (λ i. 0) c)
unfolding sum count if_clear number
units_number q zero c h = sym (sum_ext q _ (λ v. 0) (λ v l. zero-mul (2 ^ (8 * v))) ∙ sum_const q 0 ∙ mul-zero q)
units_number q (suc n) c h =
    ap₂ (λ x y. x + y) (units_number q n c (λ i l. h i (omega arith))) (power (c n))
    ∙ sym (number_more q (c n) _ _ (h n (omega arith)) (omega (arith, same_eq (c n) (c n) refl)) (λ v l d. omega (arith, same_ne (c n) v (λ e. d (sym e)))))

count_le : (n : ℕ) (c : ℕ → ℕ) (v : ℕ) → count n (λ i. 0) c v ≤ n
unfolding count if_clear
count_le n c v = omega (arith, sum_bound n 1 (λ i. same (c i) v) (λ i l. same_le (c i) v))

module _ (q n : ℕ) (c : ℕ → ℕ) (short : n < 256) (below : (i : ℕ) → i < n → c i < q) where
  -- THE TALLY: its digit v is the votes for v
  pub units_digit : (v : ℕ) → v < q → digit 8 (sum n (λ i. 256 ^ c i)) v ≡ count n (λ i. 0) c v
  units_digit v l = ap (λ x. digit 8 x v) (units_number q n c below) ∙ number_digit 8 q _ (λ u h. omega (arith, count_le n c u)) v l

-- a table in which each entry is 256 times the one before
rises : ℕ → List ℕ → Bool
rises p [] = true
rises p (x ∷ u) = eqb x p && rises (p * 256) u

rises_at : (p : ℕ) (u : List ℕ) → rises p u ≡ true → (v : ℕ) → v < length u → at u v ≡ p * 256 ^ v
unfolding rises
rises_at p [] e v l = absurd (not-suc-le-zero l)
rises_at p (x ∷ u) e zero l = eqb-true x p (and_true (eqb x p) (rises (p * 256) u) e).0 ∙ sym (mul-one p)
rises_at p (x ∷ u) e (suc v) l =
    rises_at (p * 256) u (and_true (eqb x p) (rises (p * 256) u) e).1 v (le_of_suc-le-suc l) ∙ mul_assoc p 256 (256 ^ v) ∙ ap (λ y. p * y) (sym (pow-succ' 256 v))

-- the table of units that code lends, by one computed test
abbrev pub table : List ℕ
table = 1 ∷ 256 ∷ 65536 ∷ 16777216 ∷ 4294967296 ∷ 1099511627776 ∷ 281474976710656 ∷ 72057594037927936 ∷ []

pub units_table : Units table
unfolding rises
units_table v l = rises_at 1 table refl v l ∙ one-mul (256 ^ v)
