-- The votes at eight places of each coefficient from 2 on, put into rows, and the sums with them. Assumes nothing.
use Prim.Native.Nat.{ℕ, min, zero, suc, ◌+◌, ◌-◌, ◌*◌, ◌/◌, ◌%◌, ◌^◌, ◌≤◌, ◌<◌}
use mathlib.Core.Path.{◌≡◌, ap, ap₂, sym, ◌∙◌, refl}
use mathlib.Core.Bool.{Bool, true, false}
use mathlib.Core.List.{List, [], ◌∷◌}
use native.Mathlib.Nat.{not-suc-le-zero, le_of_suc-le-suc, div-div-eq-div-mul}
use native.Mathlib.Omega.{arith}
use borrow.Author.Count.{below_more}
use borrow.Author.Tests.{leb-true, leb-false}
use lib.Dec.{leb}
use lib.ListN.{length, get_or, set, length-set}
use lib.Pow.{pow_mono}
use lib.Seq.{get_or-set_same, get_or-set_other}
use lib.Ieee.{Float}
use Rattle.code_theory.specs.Internal.{nth_clear}
use Rattle.soft_theory.specs.Numbers.{f32}
use Rattle.soft_theory.specs.Complex.{Complex, sample, plus}
use Rattle.soft_theory.specs.Soft.{vote_sums}
use Rattle.soft_theory.proofs.SumsLaws.{votes_all, within}
use Rattle.soft_theory.specs.Internal.{votes_to}
use Rattle.soft_vote_sums.specs.declared.Sums.{Sums}
use Rattle.soft_all_sums.specs.declared.Row.{Row}
use Rattle.soft_vote_sums.specs.Pair.{pair}
use Rattle.soft_vote_sums.specs.Internal.{complex, Sized, vote_at}
use Rattle.soft_all_sums.specs.Internal.{none, nones, zeros, held, no_row, Holds, Rows, votes_of, sums_of, Past, SumsTo, Stored, AllSums}
use Rattle.soft_vote_sums.proofs.Steps.{votes_none, vote_next, even_samples}

-- ---- four consecutive places stand at four consecutive indices
quarter : (k j : ℕ) → nth_clear (suc (suc k)) j ≡ j + j / 4 / 2 ^ k * 2 ^ suc (suc k)
unfolding nth_clear
quarter k j = let e : 4 * 2 ^ k ≡ 2 ^ suc (suc k) = omega arith in ap (λ n. j + n * 2 ^ suc (suc k)) (sym (div-div-eq-div-mul j 4 (2 ^ k) ∙ ap (λ n. j / n) e))

pub near : (k b x : ℕ) → 2 ≤ k → nth_clear k (8 * b + x / 4 * 4) + x % 4 ≡ nth_clear k (8 * b + x)
near zero b x h = absurd (omega arith)
near (suc zero) b x h = absurd (omega arith)
near (suc (suc k)) b x h =
    moved _ _ _ _ _ _ _ (quarter k (8 * b + x / 4 * 4)) (quarter k (8 * b + x)) (ap (λ n. n / 2 ^ k * 2 ^ suc (suc k)) (omega arith)) (omega arith)
  where
    moved : (i j r a c n o : ℕ) → n ≡ i + a → o ≡ j + c → a ≡ c → j ≡ i + r → n + r ≡ o
    moved i j r a c n o d e f g = omega (arith, d, e, f, g)

-- eight places from 8 b on are votes of coefficient k
pub block_room : (m k b : ℕ) (re im : List Float) (x : ℕ) → Sized m re im → k < m → b < length re / 16 → x < 8
    → ((k < 8) × (8 * b + x / 4 * 4 < 128)) × (8 * b + x < length re / 2)
block_room m k b re im x s h l t = omega (arith, s.high, s.reals, pow_mono {i = m} {j = 8} s.high)

-- ---- one row
module _ (re im : List Float) (k b : ℕ) where
  pub holds_none : (row : Row) → (length row.re ≡ 8) × (length row.im ≡ 8) → Holds re im k b row 0
  holds_none row e = record { reals = e.0; imaginaries = e.1; each = λ y l. absurd (not-suc-le-zero l) }

  pub holds_next : (row : Row) (x : ℕ) (v w : Float) → x < 8 → Holds re im k b row x → complex v w ≡ vote_at re im k (8 * b + x)
      → Holds re im k b (record { re = set row.re x v; im = set row.im x w }) (x + 1)
  holds_next row x v w l d e = record {
    reals = length-set row.re x v ∙ d.reals;
    imaginaries = length-set row.im x w ∙ d.imaginaries;
    each = below_more (λ y. complex (get_or (set row.re x v) y (f32.number 0)) (get_or (set row.im x w) y (f32.number 0)) ≡ vote_at re im k (8 * b + y)) x
        (λ y m. ap₂ complex (get_or-set_other row.re x y v _ (λ z. absurd (omega (arith, z)))) (get_or-set_other row.im x y w _ (λ z. absurd (omega (arith, z)))) ∙ d.each y m)
        (ap₂ complex (get_or-set_same row.re x v _ (omega (arith, d.reals))) (get_or-set_same row.im x w _ (omega (arith, d.imaginaries))) ∙ e);
  }

  -- both parts have as many places
  pub eight_pairs : (row : Row) (x : ℕ) → Holds re im k b row x → min (length row.re) (length row.im) ≡ 8
  eight_pairs row x d = omega (arith, d.reals, d.imaginaries)

  pub holds_all : (row : Row) (x : ℕ) → x ≡ 8 → Holds re im k b row x → Holds re im k b row 8
  holds_all row x e d = rw e at d

-- ---- all rows
module _ (re im : List Float) (b : ℕ) where
  pub rows_none : (rows : List Row) → length rows ≡ 8 → Rows re im b rows 2
  rows_none rows e = record { size = e; each = λ l a h. absurd (omega arith) }

  pub rows_next : (k : ℕ) (rows : List Row) (row : Row) → k < 8 → Rows re im b rows k → Holds re im k b row 8 → Rows re im b (set rows k row) (k + 1)
  rows_next k rows row h r d = record {
    size = length-set rows k row ∙ r.size;
    each = λ l a m. below_more (λ l. 2 ≤ l → Holds re im l b (get_or (set rows k row) l no_row) 8) k
        (λ l m a. let e = get_or-set_other rows k l row no_row (λ z. absurd (omega (arith, z))) in rw e (r.each l a m))
        (λ a. let e = get_or-set_same rows k row no_row (omega (arith, r.size)) in rw e d) l m a;
  }

  pub rows_all : (k m : ℕ) (rows : List Row) → k ≡ m → Rows re im b rows k → Rows re im b rows m
  rows_all k m rows e r = rw e at r

  -- the row that the code reads at l
  pub row_at : (l m : ℕ) (rows : List Row) (d : Row) → Rows re im b rows m → 2 ≤ l → l < m → m ≤ 8 → Holds re im l b (get_or rows l d) 8
  row_at l m rows d r a h e = let f = within rows l d no_row (omega (arith, r.size)) in rw f (r.each l a h)

-- ---- the sums plus one vote of a row
pub row_next : (re im : List Float) (k b x y : ℕ) (s r z : Complex Float) → y ≡ x + 1 → s ≡ votes_of re im (8 * b + x) k → z ≡ vote_at re im k (8 * b + x)
    → r ≡ plus f32 s z → r ≡ votes_of re im (8 * b + y) k
unfolding votes_of
row_next re im k b x y s r z g e Z R = vote_next re im k (8 * b + x) s r z e Z R ∙ ap (votes_to f32 k (sample f32 re im)) (omega (arith, g))

pub row_end : (re im : List Float) (k b x : ℕ) (s : Complex Float) → x ≡ 8 → s ≡ votes_of re im (8 * b + x) k → s ≡ votes_of re im (8 * (b + 1)) k
row_end re im k b x s g e = let f : 8 * b + x ≡ 8 * (b + 1) = omega (arith, g) in rw f at e

-- ---- sums stored one after the other
module _ (f : ℕ → Complex Float) (low : ℕ) (s : List Sums) where
  pub stored_none : length s ≡ 8 → Stored f low s s low
  stored_none e = record { size = e; done = λ l a h. absurd (omega arith); rest = λ l h. refl }

  -- one more, as the code stores it
  pub stored_next : (u : List Sums) (k : ℕ) (z : Sums) → k < 8 → Stored f low s u k → pair z ≡ f k → Stored f low s (set u k z) (k + 1)
  unfolding held
  stored_next u k z h d e = record {
    size = length-set u k z ∙ d.size;
    done = λ l a m. below_more (λ l. low ≤ l → held (set u k z) l ≡ f l) k
        (λ l m a. other l (λ y. absurd (omega (arith, y))) ∙ d.done l a m)
        (λ a. ap pair (get_or-set_same u k z _ (omega (arith, d.size))) ∙ e) l m a;
    rest = λ l m. other l (λ y. absurd (omega (arith, y))) ∙ d.rest l (omega arith);
  }
    where
      other : (l : ℕ) → (l ≡ k → ⊥) → held (set u k z) l ≡ held u l
      other l n = ap pair (get_or-set_other u k l z _ n)

  pub stored_all : (u : List Sums) (k m : ℕ) → k ≡ m → Stored f low s u k → Stored f low s u m
  stored_all u k m e d = rw e at d

-- what the code read at l is what s holds there
pub held_is : (s : List Sums) (l : ℕ) (d : Sums) → l < length s → pair (get_or s l d) ≡ held s l
unfolding held
held_is [] l d h = absurd (not-suc-le-zero h)
held_is (x ∷ s) zero d h = refl
held_is (x ∷ s) (suc l) d h = held_is s l d (le_of_suc-le-suc h)

-- sums of one coefficient, by any text of its number
pub votes_as : (re im : List Float) (j k l : ℕ) (z : Complex Float) → k ≡ l → z ≡ votes_of re im j k → z ≡ votes_of re im j l
votes_as re im j k l z e f = f ∙ ap (votes_of re im j) e

module _ (m : ℕ) (re im : List Float) where
  -- the sums of each coefficient from low on, with more votes
  pub sums_more : (low j k : ℕ) (s u : List Sums) → k ≡ m → Past m s → Stored (votes_of re im j) low s u k → SumsTo low re im j u m
  sums_more low j k s u e p d =
      let t = stored_all (votes_of re im j) low s u k m e d in
      record { rest = record { size = t.size; past = λ l h. t.rest l h ∙ p.past l h }; each = t.done }

  pub sums_blocks : (b : ℕ) (s : List Sums) → Sized m re im → 4 ≤ m → b ≡ length re / 16 → SumsTo 2 re im (8 * b) s m → SumsTo 2 re im (length re / 2) s m
  sums_blocks b s S h e d = let f : 8 * b ≡ length re / 2 = halves m h (e ∙ ap (λ n. n / 16) S.reals) ∙ ap (λ n. n / 2) (sym S.reals) in rw f at d
    where
      halves : (m : ℕ) → 4 ≤ m → b ≡ 2 ^ m / 16 → 8 * b ≡ 2 ^ m / 2
      halves zero h e = absurd (omega arith)
      halves (suc zero) h e = absurd (omega arith)
      halves (suc (suc zero)) h e = absurd (omega arith)
      halves (suc (suc (suc zero))) h e = absurd (omega arith)
      halves (suc (suc (suc (suc m)))) h e = omega arith

  -- all sums
  pub all_both : (e : ℕ) (s u : List Sums) → e ≡ 2 → Sized m re im → SumsTo 2 re im (length re / 2) s m → Stored (sums_of m re im) 0 s u e → AllSums m re im u
  unfolding sums_of votes_of
  all_both e s u E S t d = record {
    rest = record { size = d.size; past = λ l h. d.rest l (omega (arith, E, h, S.low)) ∙ t.rest.past l h };
    each = λ l h. each l h (leb e l) refl;
  }
    where
      each : (l : ℕ) → l < m → (c : Bool) → leb e l ≡ c → held u l ≡ vote_sums f32 m l (sample f32 re im)
      each l h true c =
          d.rest l (leb-true e l c) ∙ t.each l (omega (arith, E, leb-true e l c)) h
          ∙ votes_all f32 m l (length re / 2) (sample f32 re im) h (even_samples m re (length re / 2) S refl)
      each l h false c = d.done l (omega arith) (leb-false e l c)

  -- all votes are half as many as the samples
  pub all_few : (j : ℕ) (s : List Sums) → 2 * j ≡ 2 ^ m → SumsTo 0 re im j s m → AllSums m re im s
  unfolding votes_of
  all_few j s e t = record { rest = t.rest; each = λ l h. t.each l (omega arith) h ∙ votes_all f32 m l j (sample f32 re im) h e }

-- ---- no sums
rest_held : (n l : ℕ) → held (nones n) l ≡ pair none
unfolding held nones
rest_held zero l = refl
rest_held (suc n) zero = refl
rest_held (suc n) (suc l) = rest_held n l

pub past_zero : (m : ℕ) (s : List Sums) → s ≡ zeros → Past m s
unfolding nones
past_zero m s e = rw e record { size = refl; past = λ l h. rest_held 8 l }

pub sums_zero : (low : ℕ) (re im : List Float) (m : ℕ) (s : List Sums) → s ≡ zeros → SumsTo low re im 0 s m
unfolding votes_of pair
sums_zero low re im m s e = record { rest = past_zero m s e; each = λ l a h. ap (λ t. held t l) e ∙ rest_held 8 l ∙ votes_none re im l }

-- ---- for each m
-- half of all samples
pub half_places : (m n p : ℕ) → m ≡ n → 1 ≤ n → p ≡ 2 ^ (n - 1) → 2 * p ≡ 2 ^ m
half_places m zero p e h f = absurd (not-suc-le-zero h)
half_places m (suc n) p e h f = let g : suc n - 1 ≡ n = omega arith in rw e (omega (arith, f, ap (λ k. 2 ^ k) g))

pub all_of : (n m : ℕ) (re im : List Float) (s : List Sums) → n ≡ m → AllSums n re im s → AllSums m re im s
all_of n m re im s e a = rw e at a
