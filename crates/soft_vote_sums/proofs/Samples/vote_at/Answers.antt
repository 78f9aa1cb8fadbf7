-- `vote_at` meets its contract: the index and its partner are within both slices.
use native.Mathlib.Omega.{arith}
use Rattle.soft_vote_sums.proofs.Steps.{sized, partner_room, vote_is}
use Rattle.soft_vote_sums.proofs.Samples.vote_at.Goals as goal

pub overflow_add-i : goal.overflow_add-i
overflow_add-i c =
    let s = c.args.self in
    omega (arith, partner_room s.m c.args.k c.args.j _ _ (sized s) c.requires.0 c.requires.1 c.args.i c.pow2.result c.requires.2 c.pow2.ensures)

pub at-y-requires : goal.at-y-requires
at-y-requires c =
    (partner_room c.args.self.m c.args.k c.args.j _ _ (sized c.args.self) c.requires.0 c.requires.1 c.args.i c.pow2.result c.requires.2 c.pow2.ensures).0

pub at-requires : goal.at-requires
at-requires c =
    omega (arith, partner_room c.args.self.m c.args.k c.args.j _ _ (sized c.args.self) c.requires.0 c.requires.1 c.args.i c.pow2.result c.requires.2 c.pow2.ensures)

pub returns : goal.returns
returns c =
    vote_is _ _ _ c.args.j c.args.i c.pow2.result _ _ _ c.requires.2 c.pow2.ensures c.at-y.ensures c.at.ensures c.vote_term.ensures
