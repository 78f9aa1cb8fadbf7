-- `compare_soft_vote` meets its contract, case by case.
use Prim.Native.Nat.{◌+◌}
use mathlib.Core.Path.{ap, ◌∙◌}
use Rattle.soft_decision.specs.Voted.{voted}
use Rattle.compare_soft.specs.Internal.{vote_number, sums_after}
use Rattle.compare_soft.proofs.compare_soft_vote.Goals as goal

pub returns-in-Sure : goal.returns-in-Sure
unfolding vote_number sums_after voted
returns-in-Sure c =
    let v = c.in-Sure.ensures in
    record {
      answer = ap (λ n. 100 + n) c.from.ensures ∙ ap vote_number v;
      buffer = c.store.ensures ∙ ap (λ d. sums_after d c.args.sums.now) v;
    }

pub returns-in-Unsure : goal.returns-in-Unsure
unfolding vote_number sums_after voted
returns-in-Unsure c =
    let v = c.in-Unsure.ensures in
    record {
      answer = ap vote_number v;
      buffer = c.store-in-Unsure.ensures ∙ ap (λ d. sums_after d c.args.sums.now) v;
    }

pub returns-in-Refused : goal.returns-in-Refused
unfolding vote_number sums_after voted
returns-in-Refused c =
    let v = c.in-Refused.ensures in
    record { answer = c.from-in-Refused.ensures ∙ ap vote_number v; buffer = ap (λ d. sums_after d c.args.sums.now) v }
