-- `votes_across` meets its contract.
use Rattle.swar_lanes.proofs.BallotLaws.{across_ballot}
use Rattle.swar_lanes.proofs.LaneLaws.{less_below}
use Rattle.swar_lanes.proofs.votes_across.Goals as goal

pub returns : goal.returns
returns c = (
  across_ballot c.args.q c.args.k c.args.j c.args.x.now c.nth_clear-i.result _ _ c.requires.1
      c.nth_clear-i.ensures c.pow2.ensures c.less.ensures,
  less_below c.args.q _ _ _ c.requires.0.alphabet c.less.ensures,
)
