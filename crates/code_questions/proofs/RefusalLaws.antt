-- What a refusal makes of an answer, for every call that can be refused. Assumes nothing.
use Rattle.std.proofs.Common.{ℕ, suc, ◌≡◌, ◌≢◌, ◌<◌, arith, refl, sym, ap, ◌∙◌, Bool, true, List, [], Result, Ok, Err}
use Rattle.std.specs.Result.{IsErrAnd}
use Rattle.code_theory.specs.Question.{ask, accepted, refused, answer, after}
use Rattle.code_theory.proofs.QuestionLaws.{ask_yes, answer_yes, answer_no, after_yes, after_no, answer_accepted, answer_refused}
use Rattle.code_questions.specs.declared.Refusal.{Refusal}
use Rattle.code_questions.specs.declared.Refusal.TheVariants as R
use Rattle.code_questions.specs.Internal.{refusal}
use Rattle.code_questions.specs.Refusal.{number, answered, no_values}

-- a refusal's number is never 0
pub number_some : (r : Refusal) → 0 < number r
number_some R.Alphabet = omega arith
number_some R.Variables = omega arith
number_some R.Unsound = omega arith
number_some R.Full = omega arith
number_some R.MessageSize = omega arith
number_some R.MessageSymbols = omega arith
number_some R.WordSize = omega arith
number_some R.WordSymbols = omega arith
number_some R.Doubtful = omega arith
number_some R.SampleRange = omega arith
number_some R.Unsure = omega arith
number_some R.Coefficient = omega arith
number_some R.Zone = omega arith
number_some R.Count = omega arith

-- 9 is the number of one refusal only
pub doubtful_number : (r : Refusal) → number r ≡ 9 → r ≡ R.Doubtful
doubtful_number R.Alphabet e = absurd (omega (arith, e))
doubtful_number R.Variables e = absurd (omega (arith, e))
doubtful_number R.Unsound e = absurd (omega (arith, e))
doubtful_number R.Full e = absurd (omega (arith, e))
doubtful_number R.MessageSize e = absurd (omega (arith, e))
doubtful_number R.MessageSymbols e = absurd (omega (arith, e))
doubtful_number R.WordSize e = absurd (omega (arith, e))
doubtful_number R.WordSymbols e = absurd (omega (arith, e))
doubtful_number R.Doubtful e = refl
doubtful_number R.SampleRange e = absurd (omega (arith, e))
doubtful_number R.Unsure e = absurd (omega (arith, e))
doubtful_number R.Coefficient e = absurd (omega (arith, e))
doubtful_number R.Zone e = absurd (omega (arith, e))
doubtful_number R.Count e = absurd (omega (arith, e))

-- a refused call answers the number, and changes nothing
module _ (r : Refusal) where
  pub refused_answer : (values : List ℕ) → answer (number r) values ≡ refused (number r)
  refused_answer values = answer_no _ _ (λ z. absurd (omega (arith, z, number_some r)))

  pub refused_after : {A : Type 0} (new old : A) → after (number r) new old ≡ old
  refused_after new old = after_no _ _ _ (λ z. absurd (omega (arith, z, number_some r)))

-- the answer of a call with no values is its refusal's
pub answered_none : {A : Type 0} (r : Result A Refusal) (n : ℕ) → refusal r ≡ n → answered no_values r ≡ answer n []
unfolding refusal answered no_values answer
answered_none (Ok a) n e = rw (sym e) refl
answered_none (Err r) n e = sym (refused_answer r []) ∙ ap (λ k. answer k []) e

-- what an answer says of the questions and of what is returned
module _ {A : Type 0} (values : A → List ℕ) (n : ℕ) (xs : List ℕ) where
  pub answered_ok : (a : A) → answered values (Ok a) ≡ answer n xs → (n ≡ 0) × (values a ≡ xs)
  unfolding answered
  answered_ok a e = answer_accepted n xs (values a) e

  pub answered_err : (r : Refusal) → answered values (Err r) ≡ answer n xs → (number r ≡ n) × (n ≢ 0)
  unfolding answered
  answered_err r e = answer_refused n (number r) xs e

-- one question that lets a call go on is answered yes
pub asked_yes : {A : Type 0} (a : A) (b : Bool) (n : ℕ) → refusal (Ok a) ≡ ask b (suc n) 0 → b ≡ true
unfolding refusal
asked_yes a b n e = (ask_yes b n 0 (sym e)).0

-- what a call answers and leaves where its questions, asked first, let it go on
module _ {A : Type 0} (a : A) (n : ℕ) (e : refusal (Ok a) ≡ n) where
  pub passed : n ≡ 0
  unfolding refusal
  passed = sym e

  pub passed_answer : {B : Type 0} (values : B → List ℕ) (b : B) (xs : List ℕ) → values b ≡ xs → answered values (Ok b) ≡ answer n xs
  unfolding answered
  passed_answer values b xs f = ap accepted f ∙ sym (answer_yes n xs passed)

  pub passed_after : {B : Type 0} (new old : B) → new ≡ after n new old
  passed_after new old = sym (after_yes n new old passed)

-- and where one of them is answered no, so that a `?` behind them stops it
module _ (r : Refusal) (n : ℕ) (e : number r ≡ n) where
  pub number_answer : (values : List ℕ) → refused (number r) ≡ answer n values
  number_answer values = sym (refused_answer r values) ∙ ap (λ k. answer k values) e

  pub number_after : {A : Type 0} (new old : A) → old ≡ after n new old
  number_after new old = sym (refused_after r new old) ∙ ap (λ k. after k new old) e

-- what the `?` returns, by what it ensures of that
pub stopped : {A : Type 0} (r : Refusal) (result : Result A Refusal) → IsErrAnd result (λ s. s ≡ r) → result ≡ Err r
stopped r (Ok a) f = elim f [ ]
stopped r (Err s) f = ap Err f

module _ (A : Type 0) (r : Refusal) (n : ℕ) (e : refusal {A = A} (Err r) ≡ n) where
  pub stopped_answer : {B : Type 0} (values : B → List ℕ) (xs : List ℕ) (result : Result B Refusal) → IsErrAnd result (λ s. s ≡ r) → answered values result ≡ answer n xs
  unfolding refusal answered
  stopped_answer values xs result f = ap (answered values) (stopped r result f) ∙ number_answer r n e xs

  pub stopped_after : {B : Type 0} (new old : B) → old ≡ after n new old
  unfolding refusal
  stopped_after new old = number_after r n e new old
