-- How often one run meets a word of a rearranged group, for all W, n and lengths of the run. Assumes nothing.
use Prim.Native.Nat.{ℕ, zero, suc, ◌+◌, ◌*◌, ◌-◌, ◌/◌, ◌^◌, ◌≤◌, ◌<◌}
use mathlib.Core.Path.{◌≡◌, ap, sym, subst}
use mathlib.Core.Logic.{◌⊎◌, inl, inr}
use mathlib.Core.Bool.{Bool, true}
use native.Mathlib.Nat.{suc-mul, add-mul, mul_comm, mul-le-mul_right, lt_of_mul-lt-mul_right}
use native.Mathlib.Decide.{dec_lt}
use native.Mathlib.Omega.{arith}
use lib.Dec.{eqb}
use lib.Pow.{pow_mono}
use borrow.Author.Tests.{eqb-true}
use Rattle.code_theory.specs.Sum.{sum, every}
use Rattle.code_theory.specs.Modular.{differ}
use Rattle.code_theory.proofs.EveryLaws.{every_at}
use Rattle.code_theory.proofs.ModularLaws.{differ_eq, differ_le}
use Rattle.interleave_theory.proofs.PlaceLaws.{column_lt}
use Rattle.interleave_burst_theory.specs.Burst.{OneRun, altered_in}

module _ (count start len w : ℕ) (hit : ℕ → ℕ) where
  -- place s of word w, at s × W + w of the group, is no hit, or one hit inside the run
  abbrev Met : ℕ → Type 0
  Met s = (hit s ≡ 0) ⊎ ((hit s ≤ 1) × (start ≤ s * count + w) × (s * count + w < start + len))

  -- the places of one word are W apart, so the hits among the first n take W places each behind the start of the run
  spread : (n : ℕ) → ((s : ℕ) → s < n → Met s) → sum n hit * count ≤ n * count + w - start
  unfolding sum
  spread zero met = omega arith
  spread (suc n) met = go (spread n (λ s l. met s (omega arith))) (met n (omega arith))
    where
      go : sum n hit * count ≤ n * count + w - start → Met n → (sum n hit + hit n) * count ≤ suc n * count + w - start
      go ih (inl none) = omega (arith, ih, ap (λ h. h * count) none, add-mul (sum n hit) (hit n) count, suc-mul n count)
      go ih (inr (one, from, _)) =
          omega (arith, ih, from, mul-le-mul_right {m = hit n} {n = 1} count one, add-mul (sum n hit) (hit n) count, suc-mul n count)

  few : (k : ℕ) → len ≤ count * k → (n : ℕ) → ((s : ℕ) → s < n → Met s) → sum n hit ≤ k
  unfolding sum
  few k short zero met = omega arith
  few k short (suc n) met = go (few k short n (λ s l. met s (omega arith))) (met n (omega arith))
    where
      go : sum n hit ≤ k → Met n → sum n hit + hit n ≤ k
      go ih (inl none) = omega (arith, ih, none)
      go ih (inr (one, from, to)) =
          let less : sum n hit * count < k * count = omega (arith, spread n (λ s l. met s (omega arith)), from, to, short, mul_comm count k) in
          omega (arith, one, lt_of_mul-lt-mul_right count less)

module _ (count n start len : ℕ) (sent arrived : ℕ → ℕ) (run : OneRun (count * n) start len sent arrived) (w : ℕ) (h : w < count) where
  abbrev changed : ℕ → ℕ
  changed s = differ (sent (s * count + w)) (arrived (s * count + w))

  met : (s : ℕ) → s < n → Met count start len w changed s
  met s l = go (dec_lt (s * count + w) start) (dec_lt (s * count + w) (start + len))
    where
      within : s * count + w < count * n
      within = column_lt count n w s h l

      go : Dec (s * count + w < start) → Dec (s * count + w < start + len) → Met count start len w changed s
      go (yes before) _ = inl (differ_eq _ _ (sym (run.before _ within before)))
      go (no _) (no behind) = inl (differ_eq _ _ (sym (run.behind _ within (omega (arith, behind)))))
      go (no from) (yes to) = inr (differ_le _ _, omega (arith, from), to)

  -- A RUN of at most W × k adjacent places meets each word in at most k places
  pub run_meets : (k : ℕ) → len ≤ count * k → altered_in n count w sent arrived ≤ k
  unfolding altered_in
  run_meets k short = few count start len w changed k short n met

-- so one of at most W × (n/4 − 1) places alters fewer than a quarter of the symbols of each word
pub run_light : (m count start len : ℕ) (sent arrived : ℕ → ℕ) → len ≤ count * (2 ^ m / 4 - 1) → OneRun (count * 2 ^ m) start len sent arrived
    → (w : ℕ) → w < count → 4 * altered_in (2 ^ m) count w sent arrived < 2 ^ m
run_light m count start len sent arrived short run w h =
    omega (arith, run_meets count (2 ^ m) start len sent arrived run w h (2 ^ m / 4 - 1) short, pow_mono {i = 0} {j = m} (omega arith))

-- an empty run alters nothing
pub run_empty : (size start len : ℕ) (sent arrived : ℕ → ℕ) → len ≤ 0 → OneRun size start len sent arrived → (p : ℕ) → p < size → arrived p ≡ sent p
run_empty size start len sent arrived none run p h = go (dec_lt p start)
  where
    go : Dec (p < start) → arrived p ≡ sent p
    go (yes before) = run.before p h before
    go (no behind) = run.behind p h (omega (arith, none, behind))

-- a run of given symbols, by a test of the places before it and of those behind it
module _ (size start len : ℕ) (sent arrived : ℕ → ℕ) where
  abbrev same : ℕ → Bool
  same p = eqb (arrived p) (sent p)

  pub run_tested : every start same ≡ true → every (size - (start + len)) (λ p. same (start + len + p)) ≡ true → OneRun size start len sent arrived
  run_tested front back = record {
    before = λ p _ h. eqb-true (arrived p) (sent p) (every_at start same front p h);
    behind = λ p l h.
        let e : start + len + (p - (start + len)) ≡ p = omega (arith, h) in
        let k : p - (start + len) < size - (start + len) = omega (arith, l, h) in
        subst (λ i. arrived i ≡ sent i) e (eqb-true _ _ (every_at (size - (start + len)) (λ p. same (start + len + p)) back (p - (start + len)) k));
  }
