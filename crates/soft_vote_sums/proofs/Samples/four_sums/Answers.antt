-- `four_sums` meets its contract: the two votes, one after the other.
use Rattle.soft_vote_sums.specs.Pair.{pair}
use Rattle.soft_vote_sums.proofs.Steps.{votes_none, votes_two}
use Rattle.soft_vote_sums.proofs.Samples.four_sums.Goals as goal

pub returns : goal.returns
unfolding pair
returns c =
    votes_two _ _ c.args.k _ _ _ (pair c.add-s.result) _ c.requires.1 (votes_none _ _ c.args.k) c.vote_at.ensures
    c.add-s.ensures c.vote_at-2.ensures c.add.ensures
