-- `soft_vote` meets its contract, by the answer to its questions.
use mathlib.Core.Path.{sym, ◌∙◌}
use Rattle.code_questions.specs.Internal.{refusal}
use Rattle.code_questions.specs.Refusal.{number}
use Rattle.code_questions.proofs.RefusalLaws.{number_some}
use Rattle.soft_decision.specs.Voted.{voted}
use Rattle.soft.proofs.Refusals.{vote_accepted, vote_refused, vote_given}
use Rattle.soft.proofs.soft_vote.Goals as goal

pub invariant_of-sums : goal.invariant_of-sums
unfolding refusal
invariant_of-sums c =
    let s = (vote_accepted _ _ _ _ (sym c.in-Ok.ensures)).0 in
    record { low = s.low; high = s.high; reals = s.reals; imaginaries = s.imaginaries }

pub sums-requires : goal.sums-requires
unfolding refusal
sums-requires c = (vote_accepted _ _ _ _ (sym c.in-Ok.ensures)).1

pub returns-in-Ok : goal.returns-in-Ok
unfolding refusal
returns-in-Ok c = c.decision.ensures ∙ vote_given _ _ _ _ c.in-Ok.ensures _ c.sums.ensures

pub returns-in-Err : goal.returns-in-Err
unfolding refusal voted
returns-in-Err c = vote_refused _ _ _ _ (number c.in-Err.refusal) c.in-Err.ensures (number_some c.in-Err.refusal)
