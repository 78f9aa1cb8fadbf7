-- Whole samples whose votes lean to a message's symbols are read as that message. Assumes nothing.
use mathlib.Core.Path.{◌≡◌, refl, sym, ap, ◌∙◌}
use Prim.Native.Nat.{ℕ, zero, suc, ◌+◌, ◌-◌, ◌%◌, ◌^◌, ◌≤◌, ◌<◌}
use native.Mathlib.Omega.{arith}
use mathlib.Core.Bool.{true}
use mathlib.Core.List.{List, []}
use borrow.Author.Tests.{le-leb, lt-ltb, eq-eqb}
use lib.IntN.{ℤ}
use lib.ListN.{length}
use lib.Pow.{pow_pos}
use lib.Ieee.{Float}
use Rattle.code_theory.proofs.EveryLaws.{every_of}
use Rattle.code_theory.specs.Sum.{at}
use Rattle.code_theory.specs.Index.{bit}
use Rattle.code_theory.specs.Code.{linear}
use Rattle.code_theory.specs.Question.{ask, is_variables, is_message_size, accepted, answer, after}
use Rattle.code_theory.proofs.SumLaws.{tabulate_is}
use Rattle.code_theory.proofs.IndexLaws.{bit_low}
use Rattle.soft_theory.specs.Numbers.{f32, integers}
use Rattle.soft_theory.specs.Complex.{Complex, sample, term, turn_back}
use Rattle.soft_theory.specs.Decision.{sure, decide, is_sure, symbol}
use Rattle.soft_theory.specs.Soft.{vote_sums, coefficient, constant_sums, decision, soft_message, all_in_range, all_sure, vote_refusal, vote_answer, soft_vote, read_refusal, read_answer, read_message}
use Rattle.soft_theory.proofs.DecisionLaws.{constant_ext}
use Rattle.soft_exact_theory.specs.Whole.{Wholes}
use Rattle.soft_exact_theory.proofs.DecisionExact.{same_sure, same_symbol}
use Rattle.soft_exact_theory.proofs.ReadExact.{whole_vote, whole_read}
use Rattle.soft_exact_theory.proofs.Leans.{Leans, leans_sums, leans_sure}

-- ---- where every vote leans to the message's symbol, the message is decided
-- 2 ^ m is the successor of a number
some : (m : ℕ) → 2 ^ m ≡ suc (2 ^ m - 1)
some m = omega (arith, pow_pos m)

-- s are symbols, each vote of the samples z leans to its coefficient, and each sample turned back to the constant
pub record Leaning (m : ℕ) (s : ℕ → ℕ) (z : ℕ → Complex ℤ) : Type 0 where
  pub symbols : (k : ℕ) → k < suc m → s k < 4
  pub votes : (k : ℕ) → k < m → (i : ℕ) → i < 2 ^ m → bit k i ≡ 0 → Leans (s (suc k)) (term integers (z (i + 2 ^ k)) (z i))
  pub backs : (i : ℕ) → i < 2 ^ m → Leans (s 0) (turn_back integers (linear m (λ k. s (suc k)) i % 4) (z i))

module _ (m : ℕ) (s : ℕ → ℕ) (z : ℕ → Complex ℤ) (f : Leaning m s z) where
  vote_decided : (k : ℕ) → k < m → decide integers (vote_sums integers m k z) ≡ sure (s (suc k)) (vote_sums integers m k z)
  unfolding vote_sums
  vote_decided k h =
      rw (some m)
      (leans_sure (s (suc k)) _ (f.symbols (suc k) (omega arith)) (leans_sums (s (suc k)) (2 ^ m - 1) (bit k) _ (bit_low k 0 (pow_pos k)) (λ i l e. f.votes k h i (omega (arith, some m)) e)))

  coefficient_is : (k : ℕ) → k < m → coefficient integers m z k ≡ s (suc k)
  unfolding coefficient symbol
  coefficient_is k h = ap symbol (vote_decided k h)

  back_decided : (c : ℕ → ℕ) → ((k : ℕ) → k < m → c k ≡ s (suc k)) → decide integers (constant_sums integers m c z) ≡ sure (s 0) (constant_sums integers m c z)
  unfolding constant_sums
  back_decided c e =
      rw (constant_ext integers m c (λ k. s (suc k)) z e, constant_sums, some m)
      (leans_sure (s 0) _ (f.symbols 0 (omega arith)) (leans_sums (s 0) (2 ^ m - 1) (λ i. 0) _ refl (λ i l e. f.backs i (omega (arith, some m)))))

  decision_is : (k : ℕ) → k < suc m → (is_sure (decision integers m z k) ≡ true) × (symbol (decision integers m z k) ≡ s k)
  unfolding decision is_sure symbol
  decision_is zero l = let e = back_decided (coefficient integers m z) coefficient_is in (ap is_sure e, ap symbol e)
  decision_is (suc k) l = let e = vote_decided k (omega arith) in (ap is_sure e, ap symbol e)

  sure_all : all_sure integers m z ≡ true
  unfolding all_sure
  sure_all = every_of (suc m) _ (λ k l. (decision_is k l).0)

  message_is : (t : List ℕ) → length t ≡ suc m → ((k : ℕ) → k < suc m → at t k ≡ s k) → soft_message integers m z ≡ t
  unfolding soft_message
  message_is t e h = sym (tabulate_is (suc m) _ t e (λ k l. h k l ∙ sym (decision_is k l).1))

no_refusal : (m : ℕ) (message : List ℕ) (zr zi : List ℤ) → 2 ≤ m → m ≤ 8 → length message ≡ suc m → length zr ≡ 2 ^ m → length zi ≡ 2 ^ m
    → all_in_range integers zr ≡ true → all_in_range integers zi ≡ true → all_sure integers m (sample integers zr zi) ≡ true → read_refusal integers m message zr zi ≡ 0
unfolding read_refusal is_variables is_message_size ask
no_refusal m message zr zi l h M a b r i s =
    rw (le-leb 2 m l, le-leb m 8 h, eq-eqb (length message) (suc m) M, eq-eqb (length zr) (2 ^ m) a, eq-eqb (length zi) (2 ^ m) b, r, i, s)

-- LEANING READ: whole samples in range whose votes lean to the symbols of the message t are read as t
pub leaning_read : (m : ℕ) (t message : List ℕ) (re im : List Float) (zr zi : List ℤ) → 2 ≤ m → m ≤ 8 → length t ≡ suc m → length message ≡ suc m
    → Wholes re zr → Wholes im zi → length zr ≡ 2 ^ m → length zi ≡ 2 ^ m → all_in_range integers zr ≡ true → all_in_range integers zi ≡ true
    → Leaning m (at t) (sample integers zr zi)
    → (read_answer f32 m message re im ≡ accepted []) × (read_message f32 m message re im ≡ t)
unfolding read_answer read_message answer after
leaning_read m t message re im zr zi l h T M R I a b r i f =
    let (x, y) = whole_read m re im zr zi R I message in
    (x ∙ ap (λ n. answer n []) none, y ∙ ap (λ n. after n (soft_message integers m (sample integers zr zi)) message) none ∙ message_is m (at t) (sample integers zr zi) f t T (λ k l. refl))
  where
    none : read_refusal integers m message zr zi ≡ 0
    none = no_refusal m message zr zi l h M a b r i (sure_all m (at t) (sample integers zr zi) f)

no_vote_refusal : (m k : ℕ) (zr zi : List ℤ) → 2 ≤ m → m ≤ 8 → length zr ≡ 2 ^ m → length zi ≡ 2 ^ m → all_in_range integers zr ≡ true
    → all_in_range integers zi ≡ true → k < m
    → vote_refusal integers m k zr zi ≡ 0
unfolding vote_refusal is_variables ask
no_vote_refusal m k zr zi l h a b r i j = rw (le-leb 2 m l, le-leb m 8 h, eq-eqb (length zr) (2 ^ m) a, eq-eqb (length zi) (2 ^ m) b, r, i, lt-ltb k m j)

-- LEANING VOTE: and each of their votes is sure of its symbol
pub leaning_vote : (m k : ℕ) (s : ℕ → ℕ) (re im : List Float) (zr zi : List ℤ) → 2 ≤ m → m ≤ 8
    → Wholes re zr → Wholes im zi → length zr ≡ 2 ^ m → length zi ≡ 2 ^ m → all_in_range integers zr ≡ true → all_in_range integers zi ≡ true
    → Leaning m s (sample integers zr zi) → k < m
    → (is_sure (soft_vote f32 m k re im) ≡ true) × (symbol (soft_vote f32 m k re im) ≡ s (suc k))
unfolding soft_vote vote_answer is_sure symbol
leaning_vote m k s re im zr zi l h R I a b r i f j =
    let w = whole_vote m re im zr zi R I k in
    (same_sure _ _ w ∙ ap is_sure here, same_symbol _ _ w ∙ ap symbol here)
  where
    here : soft_vote integers m k zr zi ≡ sure (s (suc k)) (vote_sums integers m k (sample integers zr zi))
    here = rw (no_vote_refusal m k zr zi l h a b r i j) (vote_decided m s (sample integers zr zi) f k j)
