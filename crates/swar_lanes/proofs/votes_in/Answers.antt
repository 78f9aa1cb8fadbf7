-- `votes_in` meets its contract: the mask keeps the votes.
use Rattle.swar_lanes.proofs.LaneLaws.{partners_below, votes_in_is}
use borrow.Author.Rules.{rules}
use Rattle.swar_lanes.proofs.votes_in.Goals as goal

pub less-requires : goal.less-requires
less-requires c = search (rules, partners_below)

pub returns : goal.returns
returns c =
    votes_in_is c.args.q c.args.k c.args.x _ _ _ _ c.lane_bit.ensures.0 c.partners.ensures c.clear.ensures c.less.ensures
