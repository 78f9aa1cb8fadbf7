-- For whole samples the soft vote and the soft read are those of the whole numbers. Assumes nothing.
use mathlib.Core.Path.{◌≡◌, refl, ap, ap₂, ◌∙◌}
use Prim.Native.Nat.{ℕ, zero, suc, ◌^◌, ◌≤◌, ◌<◌}
use native.Mathlib.Omega.{arith}
use mathlib.Core.Bool.{Bool, true, false, ◌&&◌}
use mathlib.Core.List.{List, []}
use borrow.Author.Tests.{leb-true, eqb-true, ltb-true}
use lib.Dec.{eqb, leb}
use lib.IntN.{ℤ, pos, negsuc, nat_abs}
use lib.ListN.{length, get_or}
use lib.Ieee.{Float}
use Rattle.code_theory.proofs.EveryLaws.{every_at, every_ext}
use Rattle.code_theory.specs.Sum.{tabulate, every}
use Rattle.code_theory.specs.Question.{ask, is_variables, is_message_size, answer, after}
use Rattle.code_theory.proofs.SumLaws.{tabulate_length, tabulate_at, tabulate_is}
use Rattle.code_theory.proofs.QuestionLaws.{and_true, ask_yes, variables_bounds}
use Rattle.soft_theory.specs.Numbers.{f32, integers}
use Rattle.soft_theory.specs.Complex.{Complex, sample}
use Rattle.soft_theory.specs.Decision.{decide, symbol}
use Rattle.soft_theory.specs.Soft.{vote_sums, coefficient, decision, soft_message, in_range, all_in_range, all_sure, vote_refusal, vote_answer, soft_vote, read_refusal, read_answer, read_message}
use Rattle.soft_theory.proofs.DecisionLaws.{constant_ext}
use Rattle.soft_exact_theory.specs.Whole.{Whole, Wholes, WholeParts, Within, Same}
use Rattle.soft_exact_theory.proofs.WholeLaws.{whole_neg, whole_number, whole_le}
use Rattle.soft_exact_theory.proofs.SumsExact.{vote_sums_whole, constant_sums_whole}
use Rattle.soft_exact_theory.proofs.DecisionExact.{decide_whole, same_sure, same_symbol}

-- ---- the range
range_whole : (x : Float) (z : ℤ) → Whole x z → in_range f32 x ≡ in_range integers z
unfolding in_range
range_whole x z w = ap₂ ◌&&◌ (whole_le _ x (negsuc 126) z (whole_neg _ (pos 127) top) w) (whole_le x _ z (pos 127) w top)
  where
    top : Whole (f32.number 127) (pos 127)
    top = whole_number 127 (omega arith)

range_within : (z : ℤ) → in_range integers z ≡ true → nat_abs z ≤ 127
unfolding in_range
range_within (pos n) e = leb-true n 127 (and_true true (leb n 127) e).1
range_within (negsuc n) e = omega (arith, leb-true n 126 (and_true (leb n 126) true e).0)

all_range_whole : (x : List Float) (z : List ℤ) → Wholes x z → all_in_range f32 x ≡ all_in_range integers z
unfolding all_in_range
all_range_whole x z w =
    every_ext (length x) _ _ (λ i l. range_whole _ _ (w.each i l))
    ∙ ap (λ n. every n (λ i. in_range integers (get_or z i (integers.number 0)))) w.long

all_range_within : (z : List ℤ) → all_in_range integers z ≡ true → (i : ℕ) → i < length z → nat_abs (get_or z i (integers.number 0)) ≤ 127
unfolding all_in_range
all_range_within z e i l = range_within _ (every_at (length z) _ e i l)

-- ---- samples that are whole and in range
record Samples (m : ℕ) (y : ℕ → Complex Float) (z : ℕ → Complex ℤ) : Type 0 where
  small : m ≤ 8
  whole : (i : ℕ) → i < 2 ^ m → WholeParts (y i) (z i)
  within : (i : ℕ) → i < 2 ^ m → Within 127 (z i)

samples : (m : ℕ) (re im : List Float) (zr zi : List ℤ) → Wholes re zr → Wholes im zi → is_variables m ≡ true → eqb (length zr) (2 ^ m) ≡ true → eqb (length zi) (2 ^ m) ≡ true
    → (all_in_range integers zr && all_in_range integers zi) ≡ true → Samples m (sample f32 re im) (sample integers zr zi)
unfolding sample
samples m re im zr zi R I o a b r =
    let (rr, ri) = and_true (all_in_range integers zr) (all_in_range integers zi) r in
    let A : length zr ≡ 2 ^ m = eqb-true _ _ a in
    let B : length zi ≡ 2 ^ m = eqb-true _ _ b in
    record {
      small = (variables_bounds m o).1;
      whole = λ i l. record { re = R.each i (omega (arith, R.long)); im = I.each i (omega (arith, I.long)) };
      within = λ i l. record { re = all_range_within zr rr i (omega arith); im = all_range_within zi ri i (omega arith) };
    }

module _ (m : ℕ) (y : ℕ → Complex Float) (z : ℕ → Complex ℤ) (s : Samples m y z) where
  vote_same : (k : ℕ) → k < m → Same (decide f32 (vote_sums f32 m k y)) (decide integers (vote_sums integers m k z))
  vote_same k h = let (w, b) = vote_sums_whole m k y z h s.small s.whole s.within in decide_whole _ _ w 4129024 b (omega arith)

  coefficient_same : (k : ℕ) → k < m → coefficient f32 m y k ≡ coefficient integers m z k
  unfolding coefficient
  coefficient_same k h = same_symbol _ _ (vote_same k h)

  decision_same : (k : ℕ) → k < suc m → Same (decision f32 m y k) (decision integers m z k)
  unfolding decision
  decision_same zero h =
      rw (constant_ext f32 m (coefficient f32 m y) (coefficient integers m z) y coefficient_same)
      (let (w, b) = constant_sums_whole m (coefficient integers m z) y z s.small s.whole s.within in decide_whole _ _ w 32512 b (omega arith))
  decision_same (suc k) h = vote_same k (omega arith)

  sure_same : all_sure f32 m y ≡ all_sure integers m z
  unfolding all_sure
  sure_same = every_ext (suc m) _ _ (λ k l. same_sure _ _ (decision_same k l))

  message_same : soft_message f32 m y ≡ soft_message integers m z
  unfolding soft_message
  message_same = tabulate_is (suc m) _ (tabulate (suc m) (λ k. symbol (decision f32 m y k))) (tabulate_length (suc m) _)
      (λ k l. tabulate_at (suc m) _ k l ∙ same_symbol _ _ (decision_same k l))

-- ---- the calls
ask_when : (b : Bool) (n r s : ℕ) → (b ≡ true → r ≡ s) → ask b n r ≡ ask b n s
unfolding ask
ask_when true n r s h = h refl
ask_when false n r s h = refl

after_when : {A : Type 0} (n : ℕ) (x y o : A) → (n ≡ 0 → x ≡ y) → after n x o ≡ after n y o
unfolding after
after_when zero x y o h = h refl
after_when (suc n) x y o h = refl

module _ (m : ℕ) (re im : List Float) (zr zi : List ℤ) (R : Wholes re zr) (I : Wholes im zi) where
  same_re : eqb (length re) (2 ^ m) ≡ eqb (length zr) (2 ^ m)
  same_re = ap (λ n. eqb n (2 ^ m)) R.long

  same_im : eqb (length im) (2 ^ m) ≡ eqb (length zi) (2 ^ m)
  same_im = ap (λ n. eqb n (2 ^ m)) I.long

  same_range : (all_in_range f32 re && all_in_range f32 im) ≡ (all_in_range integers zr && all_in_range integers zi)
  same_range = ap₂ ◌&&◌ (all_range_whole re zr R) (all_range_whole im zi I)

  vote_refusal_same : (k : ℕ) → vote_refusal f32 m k re im ≡ vote_refusal integers m k zr zi
  unfolding vote_refusal
  vote_refusal_same k = rw (same_re, same_im, same_range)

  vote_samples : (k : ℕ) → vote_refusal integers m k zr zi ≡ 0 → Samples m (sample f32 re im) (sample integers zr zi) × (k < m)
  unfolding vote_refusal
  vote_samples k e =
      let (o, e) = ask_yes _ 1 _ e in
      let (a, e) = ask_yes _ 6 _ e in
      let (b, e) = ask_yes _ 6 _ e in
      let (r, e) = ask_yes _ 9 _ e in
      let (l, e) = ask_yes _ 11 _ e in
      (samples m re im zr zi R I o a b r, ltb-true k m l)

  -- WHOLE VOTE: one soft vote over whole samples is that of the whole numbers
  pub whole_vote : (k : ℕ) → Same (soft_vote f32 m k re im) (soft_vote integers m k zr zi)
  unfolding soft_vote vote_answer Same
  whole_vote k = rw (vote_refusal_same k) (go (vote_refusal integers m k zr zi) refl)
    where
      go : (n : ℕ) → vote_refusal integers m k zr zi ≡ n
          → Same (vote_answer n (decide f32 (vote_sums f32 m k (sample f32 re im)))) (vote_answer n (decide integers (vote_sums integers m k (sample integers zr zi))))
      go zero e =
          let (s, h) = vote_samples k e in
          vote_same m (sample f32 re im) (sample integers zr zi) s k h
      go (suc n) e = refl

  read_refusal_same : (message : List ℕ) → read_refusal f32 m message re im ≡ read_refusal integers m message zr zi
  unfolding read_refusal
  read_refusal_same message =
      rw (same_re, same_im, same_range)
      (ask_when (is_variables m) 2 _ _ (λ o. ask_when (is_message_size m message) 5 _ _ (λ l. ask_when (eqb (length zr) (2 ^ m)) 7 _ _ (λ a. ask_when (eqb (length zi) (2 ^ m)) 7 _ _ (λ b.
      ask_when (all_in_range integers zr && all_in_range integers zi) 10 _ _ (λ r. ap (λ t. ask t 11 0) (sure_same m _ _ (samples m re im zr zi R I o a b r))))))))

  read_samples : (message : List ℕ) → read_refusal integers m message zr zi ≡ 0 → Samples m (sample f32 re im) (sample integers zr zi)
  unfolding read_refusal
  read_samples message e =
      let (o, e) = ask_yes _ 1 _ e in
      let (l, e) = ask_yes _ 4 _ e in
      let (a, e) = ask_yes _ 6 _ e in
      let (b, e) = ask_yes _ 6 _ e in
      let (r, e) = ask_yes _ 9 _ e in
      samples m re im zr zi R I o a b r

  -- WHOLE READ: the soft read over whole samples, its answer and its message, is that of the whole numbers
  pub whole_read : (message : List ℕ) → (read_answer f32 m message re im ≡ read_answer integers m message zr zi) × (read_message f32 m message re im ≡ read_message integers m message zr zi)
  unfolding read_answer read_message
  whole_read message = (
    ap (λ n. answer n []) (read_refusal_same message),
    ap (λ n. after n (soft_message f32 m (sample f32 re im)) message) (read_refusal_same message)
        ∙ after_when (read_refusal integers m message zr zi) _ _ message (λ e. message_same m _ _ (read_samples message e)),
  )
