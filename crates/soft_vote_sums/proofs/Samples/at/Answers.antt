-- `at` meets its contract: the parts are those of the sample.
use Rattle.soft_vote_sums.specs.Pair.{pair}
use Rattle.soft_vote_sums.proofs.Steps.{sample_is}
use Rattle.soft_vote_sums.proofs.Samples.at.Goals as goal

pub returns : goal.returns
unfolding pair
returns c = sample_is _ _ _ _ _ c.part.ensures c.part-2.ensures
