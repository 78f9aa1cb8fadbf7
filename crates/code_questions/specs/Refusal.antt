-- The refusals of docs/REQUIREMENTS.md, and what a call that can be refused answers.
use Rattle.std.specs.Prelude.{ℕ, List, [], Result, Ok, Err}
use Rattle.code_theory.specs.Question.{Answer, accepted, refused}
use Rattle.code_questions.specs.declared.Refusal.{Refusal}
use Rattle.code_questions.specs.declared.Refusal.TheVariants as R

-- the number of the question that is answered no
abbrev pub number : Refusal → ℕ
number R.Alphabet = 1
number R.Variables = 2
number R.Unsound = 3
number R.Full = 4
number R.MessageSize = 5
number R.MessageSymbols = 6
number R.WordSize = 7
number R.WordSymbols = 8
number R.Doubtful = 9
number R.SampleRange = 10
number R.Unsure = 11
number R.Coefficient = 12
number R.Zone = 13
number R.Count = 14

-- the answer: the values of what is returned, or the number of the refusal
unfoldable pub answered : {A : Type 0} → (A → List ℕ) → Result A Refusal → Answer
answered values (Ok a) = accepted (values a)
answered values (Err r) = refused (number r)

-- the values of what says no more than that the call was accepted
unfoldable pub no_values : {A : Type 0} → A → List ℕ
no_values a = []
