-- `any_size` meets its contract: the part that is lent is the whole source.
use Rattle.interleave_checked.proofs.SlicesLaws.{checked_part}
use Rattle.interleave_checked.proofs.any_size.Goals as goal

pub returns : goal.returns
returns c = checked_part _ _ _ _ _ _ _ c.rows.ensures
