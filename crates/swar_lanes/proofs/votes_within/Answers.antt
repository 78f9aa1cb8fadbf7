-- `votes_within` meets its contract: high has the partners, low the places themselves.
use Rattle.swar_lanes.proofs.WithinLaws.{blend_below, up_below, within_votes}
use Rattle.swar_lanes.proofs.LaneLaws.{partners_below, less_below}
use borrow.Author.Rules.{rules}
use Rattle.swar_lanes.proofs.votes_within.Goals as goal

pub less-requires : goal.less-requires
less-requires c = search (rules, blend_below, partners_below, up_below)

pub returns : goal.returns
returns c = (
  within_votes c.args.q c.args.k c.args.a c.args.b _ _ _ _ _ c.requires.3
      c.lane_bit-l.ensures.0 c.partners.ensures c.lane_step.ensures.0 c.blend-high.ensures c.blend-low.ensures
      c.less.result c.less.ensures,
  less_below c.args.q _ _ _ c.requires.0 c.less.ensures,
)
