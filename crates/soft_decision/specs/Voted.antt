-- The number and the values of docs/REQUIREMENTS.md for each case of the answer of one soft vote.
use Rattle.std.specs.Prelude.{Float}
use Rattle.code_questions.specs.Refusal.{number}
use Rattle.soft_theory.specs.Decision.{Decision, sure, unsure, refused}
use Rattle.soft_vote_sums.specs.Pair.{pair}
use Rattle.soft_decision.specs.declared.SoftVote.{SoftVote}
use Rattle.soft_decision.specs.declared.SoftVote.TheVariants as Vote

-- sure with a symbol and both sums, unsure with both sums, or a refusal with its number
unfoldable pub voted : SoftVote → Decision Float
voted (Vote.Sure symbol s) = sure symbol (pair s)
voted (Vote.Unsure s) = unsure (pair s)
voted (Vote.Refused r) = refused (number r)
