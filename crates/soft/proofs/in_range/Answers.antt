-- `in_range` meets its contract, by the bits of 127.
use Rattle.soft.proofs.Range.{in_range_lem}
use Rattle.soft.proofs.in_range.Goals as goal

pub returns : goal.returns
returns c = in_range_lem c.args.x
