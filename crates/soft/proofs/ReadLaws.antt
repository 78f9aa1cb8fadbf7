-- The soft read: its coefficients one after the other, its questions and its three ends. Assumes nothing.
use Prim.Native.Nat.{ℕ, zero, suc, ◌+◌, ◌^◌, ◌≤◌, ◌<◌}
use mathlib.Core.Path.{◌≡◌, refl, ap, ap₂, sym, ◌∙◌}
use mathlib.Core.Logic.{◌≢◌}
use mathlib.Core.Bool.{Bool, true, false, ◌&&◌}
use mathlib.Core.List.{List, []}
use native.Mathlib.Nat.{not-suc-le-zero}
use native.Mathlib.Numerals.{add-one}
use native.Mathlib.Omega.{arith}
use borrow.Author.Count.{below_more}
use lib.Dec.{eqb}
use lib.ListN.{length, get_or, take, set, length-set, length-take}
use lib.Seq.{get_or-set_same, get_or-set_other, get_or-take}
use lib.Ieee.{Float}
use Rattle.std.proofs.Common.{Option, Some, None, Ok, Err}
use Rattle.std.specs.Option.{option_zip, ok_or}
use Rattle.code_theory.proofs.EveryLaws.{every_no}
use Rattle.code_theory.specs.Sum.{at, every}
use Rattle.code_theory.specs.Question.{ask, is_variables, is_message_size, answer, after}
use Rattle.code_theory.proofs.QuestionLaws.{ask_never, ask_later}
use Rattle.code_theory.proofs.SumLaws.{tabulate_is}
use Rattle.code_questions.specs.declared.Refusal.{Refusal}
use Rattle.code_questions.specs.declared.Refusal.TheVariants as R
use Rattle.code_questions.specs.Refusal.{number, answered, no_values}
use Rattle.code_questions.proofs.RefusalLaws.{number_some, refused_answer, refused_after}
use Rattle.soft_theory.specs.Numbers.{f32}
use Rattle.soft_theory.specs.Complex.{Complex, sample}
use Rattle.soft_theory.specs.Decision.{Decision, sure, unsure, refused, decide, is_sure, symbol}
use Rattle.soft_theory.specs.Soft.{vote_sums, coefficient, constant_sums, decision, soft_message, all_in_range, all_sure, read_refusal, read_answer, read_message}
use Rattle.soft_theory.proofs.DecisionLaws.{symbol_lt, constant_ext, all_sure_lem}
use Rattle.soft_vote_sums.specs.declared.Sums.{Sums}
use Rattle.soft_vote_sums.specs.Pair.{pair}
use Rattle.soft_all_sums.specs.Internal.{AllSums}
use Rattle.soft_all_sums.proofs.RowLaws.{held_is}
use Rattle.soft_decision.specs.Internal.{sure_symbol}
use Rattle.soft_constant_sums.specs.Internal.{Coefficients, coefficients_in}
use Rattle.soft.specs.Internal.{sample_refusal, sure_to, Found, Decided, constant_decision}

-- what the code learns of a decision
pub no_symbol : (d : Decision Float) → None ≡ sure_symbol d → is_sure d ≡ false
unfolding is_sure sure_symbol
no_symbol (sure s z) e = cc
no_symbol (unsure z) e = refl
no_symbol (refused n) e = refl

pub some_symbol : (d : Decision Float) (v : ℕ) → Some v ≡ sure_symbol d → (is_sure d ≡ true) × (v ≡ symbol d)
unfolding is_sure symbol sure_symbol
some_symbol (sure s z) v e = (refl, cc)
some_symbol (unsure z) v e = absurd (cc)
some_symbol (refused n) v e = absurd (cc)

-- the sums of coefficient k, as the code reads them
pub sums_read : (m : ℕ) (re im : List Float) (all : List Sums) (k : ℕ) (d : Sums) → AllSums m re im all → m ≤ 8 → k < m
    → pair (get_or (take m all) k d) ≡ vote_sums f32 m k (sample f32 re im)
sums_read m re im all k d a h l = ap pair (get_or-take m all k d l) ∙ held_is all k d (omega (arith, a.rest.size)) ∙ a.each k l

module _ (m : ℕ) (re im : List Float) where
  -- ---- the coefficients
  pub found_none : (f : List ℕ) → length f ≡ 9 → at f 0 ≡ 0 → Found m re im 0 f
  found_none f e z = record { size = e; zeroth = z; each = λ j l. absurd (not-suc-le-zero l) }

  pub found_next : (k v : ℕ) (f : List ℕ) → k < 8 → Found m re im k f → v ≡ symbol (decide f32 (vote_sums f32 m k (sample f32 re im))) → Found m re im (k + 1) (set f (k + 1) v)
  unfolding coefficient
  found_next k v f l g e = record {
    size = length-set f (k + 1) v ∙ g.size;
    zeroth = get_or-set_other f (k + 1) 0 v 0 (λ z. absurd (omega (arith, z))) ∙ g.zeroth;
    each = below_more (λ j. at (set f (k + 1) v) (suc j) ≡ coefficient f32 m (sample f32 re im) j) k
        (λ j u. get_or-set_other f (k + 1) (suc j) v 0 (λ z. absurd (omega (arith, z))) ∙ g.each j u)
        (ap (at (set f (k + 1) v)) (sym (add-one k)) ∙ get_or-set_same f (k + 1) v 0 (omega (arith, g.size)) ∙ e);
  }

  pub sure_none : sure_to m re im 0 ≡ true
  unfolding sure_to every
  sure_none = refl

  pub sure_next : (k : ℕ) → sure_to m re im k ≡ true → is_sure (decide f32 (vote_sums f32 m k (sample f32 re im))) ≡ true → sure_to m re im (k + 1) ≡ true
  unfolding sure_to every
  sure_next k e f = rw add-one (ap₂ ◌&&◌ e f)

  -- the decision of coefficient k by its sums z
  pub stopped : (k : ℕ) (z : Complex Float) → k < m → z ≡ vote_sums f32 m k (sample f32 re im) → None ≡ sure_symbol (decide f32 z) → sure_to m re im m ≡ false
  unfolding sure_to
  stopped k z l v e = every_no m _ k l (ap (λ y. is_sure (decide f32 y)) (sym v) ∙ no_symbol (decide f32 z) e)

  pub went_on : (k s : ℕ) (f : List ℕ) (z : Complex Float) → k < 8 → z ≡ vote_sums f32 m k (sample f32 re im) → Some s ≡ sure_symbol (decide f32 z)
      → sure_to m re im k ≡ true → Found m re im k f → (sure_to m re im (k + 1) ≡ true) × Found m re im (k + 1) (set f (k + 1) s)
  went_on k s f z l v e t g =
      let (is, told) = some_symbol (decide f32 z) s e in
      (sure_next k t (ap (λ y. is_sure (decide f32 y)) (sym v) ∙ is), found_next k s f l g (told ∙ ap (λ y. symbol (decide f32 y)) v))

  pub all_decided : (k : ℕ) (f : List ℕ) → k ≡ m → sure_to m re im k ≡ true → Found m re im k f → (sure_to m re im m ≡ true) × Found m re im m f
  all_decided k f e t g = (rw e at t, rw e at g)

  found_below : (f : List ℕ) → Found m re im m f → (k : ℕ) → k < m → at f (suc k) < 4
  unfolding coefficient
  found_below f g k l = rw (g.each k l) (symbol_lt f32 (vote_sums f32 m k (sample f32 re im)))

  pub found_coefficients : (f : List ℕ) → Found m re im m f → Coefficients m f
  found_coefficients f g = record { size = g.size; zeroth = g.zeroth; below = found_below f g }

  -- the constant's sums by what was found are those of the definition
  pub constant_found : (f : List ℕ) (z : Complex Float) (o : Option ℕ) → Found m re im m f → z ≡ constant_sums f32 m (coefficients_in f) (sample f32 re im)
      → o ≡ sure_symbol (decide f32 z) → o ≡ sure_symbol (constant_decision m re im)
  unfolding coefficients_in decision constant_decision
  constant_found f z o g e h = h ∙ ap (λ y. sure_symbol (decide f32 y)) (e ∙ constant_ext f32 m _ _ (sample f32 re im) g.each)

  pub four_found : (f : List ℕ) → m ≡ 2 → Found m re im m f → Coefficients 2 f
  four_found f e g = rw e at (found_coefficients f g)

  pub four_constant : (f : List ℕ) (z : Complex Float) (o : Option ℕ) → m ≡ 2 → Found m re im m f → z ≡ constant_sums f32 2 (coefficients_in f) (sample f32 re im)
      → o ≡ sure_symbol (decide f32 z) → o ≡ sure_symbol (constant_decision m re im)
  four_constant f z o e g h = constant_found f z o g (h ∙ ap (λ n. constant_sums f32 n (coefficients_in f) (sample f32 re im)) (sym e))

  -- ---- whether all are sure
  all_parts : all_sure f32 m (sample f32 re im) ≡ (is_sure (constant_decision m re im) && sure_to m re im m)
  unfolding sure_to decision constant_decision
  all_parts = all_sure_lem f32 m (sample f32 re im)

  pub one_unsure : sure_to m re im m ≡ false → all_sure f32 m (sample f32 re im) ≡ false
  one_unsure e = all_parts ∙ ap (λ t. is_sure (constant_decision m re im) && t) e ∙ and_no (is_sure (constant_decision m re im))
    where
      and_no : (a : Bool) → (a && false) ≡ false
      and_no true = refl
      and_no false = refl

  pub constant_unsure : None ≡ sure_symbol (constant_decision m re im) → all_sure f32 m (sample f32 re im) ≡ false
  constant_unsure e = all_parts ∙ ap (λ t. t && sure_to m re im m) (no_symbol (constant_decision m re im) e)

  pub all_yes : (v : ℕ) → sure_to m re im m ≡ true → Some v ≡ sure_symbol (constant_decision m re im) → all_sure f32 m (sample f32 re im) ≡ true
  all_yes v s e = all_parts ∙ ap₂ ◌&&◌ (some_symbol (constant_decision m re im) v e).0 s

  -- ---- the message
  -- it is not longer than what is found, with one symbol set
  pub message_fits : (l i v : ℕ) (f : List ℕ) → l ≡ suc m → m ≤ 8 → Found m re im m f → l ≤ length (set f i v)
  message_fits l i v f e h g = omega (arith, e, length-set f i v, g.size)

  pub message_is : (l v : ℕ) (f : List ℕ) → l ≡ suc m → m ≤ 8 → Found m re im m f → v ≡ symbol (constant_decision m re im)
      → take l (set f 0 v) ≡ soft_message f32 m (sample f32 re im)
  unfolding soft_message decision coefficient constant_decision
  message_is l v f e h g c =
      rw e
      (tabulate_is (suc m) _ (take (suc m) (set f 0 v)) (omega (arith, length-take (suc m) (set f 0 v), length-set f 0 v, g.size)) (λ i u. get_or-take (suc m) (set f 0 v) i 0 u ∙ each i u))
    where
      each : (i : ℕ) → i < suc m → at (set f 0 v) i ≡ symbol (decision f32 m (sample f32 re im) i)
      each zero u = get_or-set_same f 0 v 0 (omega (arith, g.size)) ∙ c
      each (suc k) u = get_or-set_other f 0 (suc k) v 0 (λ z. absurd (omega (arith, z))) ∙ g.each k (omega arith)

zipped : (a b c d : ℕ) → Some (a, b) ≡ option_zip (Some c) (Some d) → (c ≡ a) × (d ≡ b)
zipped a b c d e = (ap (λ (p : ℕ × ℕ). p.0) (some_is e), ap (λ (p : ℕ × ℕ). p.1) (some_is e))
  where
    some_is : {x y : ℕ × ℕ} → Some x ≡ Some y → y ≡ x
    some_is e = cc

-- ---- two coefficients, by their sums y and z and with both decisions
module _ (re im : List Float) (y z : Complex Float) (o p : Option ℕ) (Y : y ≡ vote_sums f32 2 0 (sample f32 re im)) (Z : z ≡ vote_sums f32 2 1 (sample f32 re im))
    (O : o ≡ sure_symbol (decide f32 y)) (P : p ≡ sure_symbol (decide f32 z)) where
  pub both_none : None ≡ option_zip o p → sure_to 2 re im 2 ≡ false
  both_none e = go o p O P e
    where
      go : (o p : Option ℕ) → o ≡ sure_symbol (decide f32 y) → p ≡ sure_symbol (decide f32 z) → None ≡ option_zip o p → sure_to 2 re im 2 ≡ false
      go None p O P e = stopped 2 re im 0 y (omega arith) Y O
      go (Some a) None O P e = stopped 2 re im 1 z (omega arith) Z P
      go (Some a) (Some b) O P e = absurd (cc)

  pub both_some : (a b : ℕ) (f : List ℕ) → length f ≡ 9 → at f 0 ≡ 0 → Some (a, b) ≡ option_zip o p → (sure_to 2 re im 2 ≡ true) × Found 2 re im 2 (set (set f 1 a) 2 b)
  unfolding sure_to every
  both_some a b f s h e = go o p O P e
    where
      go : (o p : Option ℕ) → o ≡ sure_symbol (decide f32 y) → p ≡ sure_symbol (decide f32 z) → Some (a, b) ≡ option_zip o p
          → (sure_to 2 re im 2 ≡ true) × Found 2 re im 2 (set (set f 1 a) 2 b)
      go None p O P e = absurd (cc)
      go (Some c) None O P e = absurd (cc)
      go (Some c) (Some d) O P e =
          let (i, j) = zipped a b c d e in
          let one = went_on 2 re im 0 a f y (omega arith) Y (rw i at O) refl (found_none 2 re im f s h) in
          went_on 2 re im 1 b (set f 1 a) z (omega arith) Z (rw j at P) one.0 one.1

pub both_told : (m : ℕ) (re im : List Float) (f : List ℕ) (o : Option (Unit {0})) → m ≡ 2 → Decided 2 re im f o → Decided m re im f o
both_told m re im f o e d = rw e d

-- ---- the questions
module _ (m : ℕ) (message : List ℕ) (re im : List Float) where
  read_first : sample_refusal m (length message) re im ≢ 0 → read_refusal f32 m message re im ≡ sample_refusal m (length message) re im
  unfolding read_refusal sample_refusal is_message_size
  read_first =
      ask_never (is_variables m) 2 _ _
      (ask_never (eqb (length message) (suc m)) 5 _ _
      (ask_never (eqb (length re) (2 ^ m)) 7 _ _
      (ask_never (eqb (length im) (2 ^ m)) 7 _ _
      (ask_never (all_in_range f32 re && all_in_range f32 im) 10 _ _ (λ h. absurd (h refl))))))

  read_last : sample_refusal m (length message) re im ≡ 0 → read_refusal f32 m message re im ≡ ask (all_sure f32 m (sample f32 re im)) 11 0
  unfolding read_refusal sample_refusal is_message_size
  read_last =
      ask_later (is_variables m) 1 _ _ _
      (ask_later (eqb (length message) (suc m)) 4 _ _ _
      (ask_later (eqb (length re) (2 ^ m)) 6 _ _ _
      (ask_later (eqb (length im) (2 ^ m)) 6 _ _ _
      (ask_later (all_in_range f32 re && all_in_range f32 im) 9 _ _ _ (λ h. refl)))))

  -- ---- the three ends: a no to the questions up to 10, an unsure decision, and the message
  read_refused : (r : Refusal) → number r ≡ read_refusal f32 m message re im
      → (answered {A = Unit {0}} no_values (Err r) ≡ read_answer f32 m message re im) × (message ≡ read_message f32 m message re im)
  unfolding read_answer read_message answered
  read_refused r e = rw (← e) (sym (refused_answer r []), sym (refused_after r _ message))

  pub read_out : (r : Refusal) → number r ≡ sample_refusal m (length message) re im
      → (answered {A = Unit {0}} no_values (Err r) ≡ read_answer f32 m message re im) × (message ≡ read_message f32 m message re im)
  read_out r e = read_refused r (e ∙ sym (read_first (λ z. absurd (omega (arith, e, z, number_some r)))))

  module _ (e : 0 ≡ sample_refusal m (length message) re im) where
    pub read_unsure : all_sure f32 m (sample f32 re im) ≡ false
        → (answered {A = Unit {0}} no_values (Err R.Unsure) ≡ read_answer f32 m message re im) × (message ≡ read_message f32 m message re im)
    unfolding ask
    read_unsure f = read_refused R.Unsure (sym (read_last (sym e) ∙ ap (λ t. ask t 11 0) f))

    pub read_sure : all_sure f32 m (sample f32 re im) ≡ true → (x : List ℕ) → x ≡ soft_message f32 m (sample f32 re im)
        → (answered {A = Unit {0}} no_values (Ok (tt {0})) ≡ read_answer f32 m message re im) × (x ≡ read_message f32 m message re im)
    unfolding ask read_answer read_message answered no_values answer after
    read_sure f x g = let n : read_refusal f32 m message re im ≡ 0 = read_last (sym e) ∙ ap (λ t. ask t 11 0) f in rw n (refl, g)

    -- the coefficients, as the code tests them
    pub coefficients_out : (f : List ℕ) (o : Option (Unit {0})) (r : Refusal) → Decided m re im f o → Err r ≡ ok_or o R.Unsure
        → (answered {A = Unit {0}} no_values (Err r) ≡ read_answer f32 m message re im) × (message ≡ read_message f32 m message re im)
    coefficients_out f None r d h = let e : r ≡ R.Unsure = cc in rw e (read_unsure (one_unsure m re im d))
    coefficients_out f (Some u) r d h = absurd (cc)

    -- the constant, by its decision
    pub constant_out : (o : Option ℕ) (r : Refusal) → o ≡ sure_symbol (constant_decision m re im) → Err r ≡ ok_or o R.Unsure
        → (answered {A = Unit {0}} no_values (Err r) ≡ read_answer f32 m message re im) × (message ≡ read_message f32 m message re im)
    constant_out None r d h = let f : r ≡ R.Unsure = cc in rw f (read_unsure (constant_unsure m re im d))
    constant_out (Some v) r d h = absurd (cc)

pub coefficients_told : (m : ℕ) (re im : List Float) (f : List ℕ) (o : Option (Unit {0})) (u : Unit {0}) → Decided m re im f o → Ok u ≡ ok_or o R.Unsure
    → (sure_to m re im m ≡ true) × Found m re im m f
coefficients_told m re im f None u d h = absurd (cc)
coefficients_told m re im f (Some v) u d h = d

pub constant_told : (o p : Option ℕ) (v : ℕ) → o ≡ p → Ok v ≡ ok_or o R.Unsure → Some v ≡ p
constant_told None p v d h = absurd (cc)
constant_told (Some w) p v d h = cc
