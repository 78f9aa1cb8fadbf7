-- `ballot` meets its contract.
use Rattle.std.proofs.Common.{arith}
use Rattle.swar_lanes.proofs.BallotLaws.{within_ballot}
use Rattle.swar_lanes.proofs.ballot.Goals as goal

pub returns-then-k-lt4 : goal.returns-then-k-lt4
returns-then-k-lt4 c =
    let v = c.votes_within.ensures in
    (within_ballot c.args.q c.args.k c.args.j c.args.x.now _ (omega arith) v.0, v.1)
