-- `many_sums` meets its contract: the sums from coefficient 2 on, and the first two.
use Rattle.soft_vote_sums.proofs.Steps.{sized}
use Rattle.soft_all_sums.proofs.RowLaws.{all_both}
use Rattle.soft_all_sums.proofs.many_sums.Goals as goal

pub returns : goal.returns
returns c =
    all_both _ _ _ c.low_end.result _ _ c.low_end.ensures (sized c.args.samples) c.high_sums.ensures c.low_sums.ensures
