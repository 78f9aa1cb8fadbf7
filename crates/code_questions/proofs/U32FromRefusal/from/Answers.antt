-- A refusal's number is the value of its case.
use Rattle.std.proofs.Common.{◌≡◌, ◌+◌, refl}
use Rattle.code_questions.specs.declared.Refusal.{Refusal}
use Rattle.code_questions.specs.declared.Refusal.TheVariants as R
use Rattle.code_questions.specs.Refusal.{number}
use Rattle.code_questions.proofs.U32FromRefusal.from.Goals as goal
use Rattle.code_questions.specs.contracts.Refusal.{the_type}
use denote.Enum.Declared.{tag_of}

value : (r : Refusal) → tag_of the_type r + 1 ≡ number r
value R.Alphabet = refl
value R.Variables = refl
value R.Unsound = refl
value R.Full = refl
value R.MessageSize = refl
value R.MessageSymbols = refl
value R.WordSize = refl
value R.WordSymbols = refl
value R.Doubtful = refl
value R.SampleRange = refl
value R.Unsure = refl
value R.Coefficient = refl
value R.Zone = refl
value R.Count = refl

pub returns : goal.returns
returns c = value c.args.refusal
