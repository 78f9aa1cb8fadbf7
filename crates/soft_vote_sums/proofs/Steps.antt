-- The indices with bit k clear, their partners, and the sums plus one vote. Assumes nothing.
use Prim.Native.Nat.{ℕ, zero, suc, ◌+◌, ◌*◌, ◌-◌, ◌/◌, ◌^◌, ◌≤◌, ◌<◌}
use mathlib.Core.Path.{◌≡◌, refl, ap, ap₂, sym, ◌∙◌}
use mathlib.Core.List.{List}
use native.Mathlib.Nat.{div-mul-le_self}
use native.Mathlib.Omega.{arith}
use lib.ListN.{length, get_or, take, drop, length-drop}
use lib.Seq.{take_all, get_or-drop}
use lib.Pow.{pow_mono}
use lib.IntN.{pos}
use lib.Ieee.{Float, binary32, of_bits, of_int}
use Rattle.code_theory.specs.Internal.{nth_clear}
use Rattle.code_theory.proofs.IndexLaws.{nth_partner_lt}
use Rattle.soft_theory.specs.Numbers.{f32}
use Rattle.soft_theory.specs.Complex.{Complex, sample, term, plus}
use Rattle.soft_theory.specs.Soft.{vote_sums}
use Rattle.soft_theory.proofs.SumsLaws.{sums_none, sums_next, votes_all}
use Rattle.soft_theory.specs.Internal.{votes_to}
use Rattle.soft_vote_sums.specs.declared.Samples.{Samples}
use Rattle.soft_vote_sums.specs.Internal.{complex, Sized, vote_at}

-- the numbers that the code writes
pub zero_bits : of_bits binary32 0 ≡ of_int binary32 (pos 0)
unfolding of_bits of_int
zero_bits = refl

-- ---- the indices with bit k clear
pub nth_small : (k j : ℕ) → j < 128 → nth_clear k j < 256
unfolding nth_clear
nth_small k j l = omega (arith, div-mul-le_self j (2 ^ k))

-- vote j of coefficient k is one of the 128 at most, at the index i with its partner step = 2 ^ k above
module _ (m k j : ℕ) (re im : List Float) (s : Sized m re im) (h : k < m) (l : j < length re / 2) where
  pub few_votes : (k < 8) × (j < 128)
  few_votes = omega (arith, s.high, s.reals, pow_mono {i = m} {j = 8} s.high)

  pub partner_room : (i step : ℕ) → i ≡ nth_clear k j → step ≡ 2 ^ k → (i + step < length re) × (i + step < length im) × (i + step < 256)
  partner_room i step e f = omega (arith, inside m h (omega (arith, s.reals)), e, f, s.high, s.reals, s.imaginaries, pow_mono {i = m} {j = 8} s.high)
    where
      inside : (m : ℕ) → k < m → j < 2 ^ m / 2 → nth_clear k j + 2 ^ k < 2 ^ m
      inside zero h l = absurd (omega arith)
      inside (suc m) h l = nth_partner_lt k m j (omega arith) (omega arith)

-- two at a time, all samples
pub even_samples : (m : ℕ) {im : List Float} (re : List Float) (b : ℕ) → Sized m re im → b ≡ length re / 2 → 2 * b ≡ 2 ^ m
even_samples m re b s e = go m s.low s.reals
  where
    go : (m : ℕ) → 2 ≤ m → length re ≡ 2 ^ m → 2 * b ≡ 2 ^ m
    go zero h f = absurd (omega arith)
    go (suc m) h f = omega (arith, e, f)

-- the samples as their ghost fields have them
pub sized : (s : Samples) → Sized s.m s.re.now s.im.now
sized s = record { low = s.low; high = s.high; reals = s.reals; imaginaries = s.imaginaries }

-- what the code read at i is the sample at i
pub sample_is : (re im : List Float) (i : ℕ) (x y : Float) → x ≡ get_or re i (of_int binary32 (pos 0)) → y ≡ get_or im i (of_int binary32 (pos 0)) → complex x y ≡ sample f32 re im i
unfolding sample
sample_is re im i x y e f = ap₂ complex e f

pub votes_none : (re im : List Float) (k : ℕ) → complex (of_bits binary32 0) (of_bits binary32 0) ≡ votes_to f32 k (sample f32 re im) 0
unfolding votes_to
votes_none re im k = ap₂ complex zero_bits zero_bits ∙ sym (sums_none f32 (λ i. 0) _)

-- the vote at place j
pub vote_is : (re im : List Float) (k j i step : ℕ) (r y p : Complex Float) → i ≡ nth_clear k j → step ≡ 2 ^ k → y ≡ sample f32 re im (i + step) → p ≡ sample f32 re im i
    → r ≡ term f32 y p → r ≡ vote_at re im k j
unfolding vote_at
vote_is re im k j i step r y p f g Y P R = R ∙ ap₂ (term f32) (Y ∙ ap₂ (λ a b. sample f32 re im (a + b)) f g) (P ∙ ap (sample f32 re im) f)

-- ---- the slice that starts at the step
abbrev pub onward : List Float → ℕ → List Float
onward x step = take (length x - step) (drop step x)

onward_drop : (x : List Float) (step : ℕ) → onward x step ≡ drop step x
onward_drop x step = take_all (length x - step) (drop step x) (omega (arith, length-drop step x))

onward_room : (x : List Float) (step i : ℕ) → i + step < length x → i < length (onward x step)
onward_room x step i l = omega (arith, ap length (onward_drop x step), length-drop step x)

onward_at : (x : List Float) (step i : ℕ) (d : Float) → get_or (onward x step) i d ≡ get_or x (i + step) d
onward_at x step i d = ap (λ l. get_or l i d) (onward_drop x step) ∙ get_or-drop step x i d ∙ ap (λ n. get_or x n d) (omega arith)

onward_sample : (re im : List Float) (step i : ℕ) → sample f32 (onward re step) (onward im step) i ≡ sample f32 re im (i + step)
unfolding sample
onward_sample re im step i = ap₂ complex (onward_at re step i _) (onward_at im step i _)

-- the step is within both slices
pub step_room : (m k step : ℕ) (re im : List Float) → Sized m re im → k < m → step ≡ 2 ^ k → (step ≤ length re) × (step ≤ length im) × (step ≤ 256)
step_room m k step re im s h g = omega (arith, g, s.high, s.reals, s.imaginaries, pow_mono {i = k} {j = m} (omega arith), pow_mono {i = m} {j = 8} s.high)

-- the index of vote j is within the slices, and within those that start at the step
pub onward_rooms : (m k j : ℕ) (re im : List Float) → Sized m re im → k < m → j < length re / 2 → (i step : ℕ) → i ≡ nth_clear k j → step ≡ 2 ^ k
    → (i < length re) × (i < length (onward re step)) × (i < length (onward im step))
onward_rooms m k j re im s h l i step e g =
    let r = partner_room m k j re im s h l i step e g in
    (omega (arith, r), onward_room re step i r.0, onward_room im step i r.1)

-- the vote at place j, with the partner from the slices that start at the step
pub onward_vote : (re im : List Float) (k j i step : ℕ) (r : Complex Float) → i ≡ nth_clear k j → step ≡ 2 ^ k
    → r ≡ term f32 (sample f32 (onward re step) (onward im step) i) (sample f32 re im i) → r ≡ vote_at re im k j
onward_vote re im k j i step r e g R = vote_is re im k j i step r _ _ e g (onward_sample re im step i) refl R

-- the sums plus one vote
pub vote_next : (re im : List Float) (k j : ℕ) (s r z : Complex Float) → s ≡ votes_to f32 k (sample f32 re im) j → z ≡ vote_at re im k j → r ≡ plus f32 s z
    → r ≡ votes_to f32 k (sample f32 re im) (j + 1)
unfolding votes_to vote_at
vote_next re im k j s r z e Z R =
    R
    ∙ ap₂ (plus f32) e Z
    ∙ sym (sums_next f32 j (λ i. term f32 (sample f32 re im (nth_clear k i + 2 ^ k)) (sample f32 re im (nth_clear k i))))

-- two votes more
pub votes_next : (re im : List Float) (k b : ℕ) (s r t z w : Complex Float) → s ≡ votes_to f32 k (sample f32 re im) (2 * b) → z ≡ vote_at re im k (2 * b) → r ≡ plus f32 s z
    → w ≡ vote_at re im k (2 * b + 1) → t ≡ plus f32 r w → t ≡ votes_to f32 k (sample f32 re im) (2 * (b + 1))
votes_next re im k b s r t z w e Z R W T =
    vote_next re im k (2 * b + 1) r t w (vote_next re im k (2 * b) s r z e Z R) W T
    ∙ ap (votes_to f32 k (sample f32 re im)) (omega arith)

-- all votes: two for every four samples
pub votes_end : (re im : List Float) (m k b : ℕ) (s : Complex Float) → Sized m re im → k < m → s ≡ votes_to f32 k (sample f32 re im) (2 * b) → b ≡ length re / 4
    → s ≡ vote_sums f32 m k (sample f32 re im)
votes_end re im m k b s S h e f = e ∙ votes_all f32 m k (2 * b) (sample f32 re im) h (fours m S.low (f ∙ ap (λ n. n / 4) S.reals))
  where
    fours : (m : ℕ) → 2 ≤ m → b ≡ 2 ^ m / 4 → 2 * (2 * b) ≡ 2 ^ m
    fours zero h e = absurd (omega arith)
    fours (suc zero) h e = absurd (omega arith)
    fours (suc (suc m)) h e = omega arith

-- ---- four samples
-- both votes
pub votes_two : (re im : List Float) (k : ℕ) (s z w r t : Complex Float) → k < 2 → s ≡ votes_to f32 k (sample f32 re im) 0 → z ≡ vote_at re im k 0 → r ≡ plus f32 s z
    → w ≡ vote_at re im k 1 → t ≡ plus f32 r w → t ≡ vote_sums f32 2 k (sample f32 re im)
votes_two re im k s z w r t h e Z R W T = vote_next re im k 1 r t w (vote_next re im k 0 s r z e Z R) W T ∙ votes_all f32 2 k 2 (sample f32 re im) h refl
