-- `more` meets its contract: the sums plus one vote.
use native.Mathlib.Omega.{arith}
use lib.Pow.{pow_mono}
use Rattle.soft_all_sums.specs.Internal.{votes_of}
use Rattle.soft_vote_sums.proofs.Steps.{vote_next}
use Rattle.soft_all_sums.proofs.more.Goals as goal

pub nth_clear-requires : goal.nth_clear-requires
nth_clear-requires c =
    let s = c.args.samples in
    omega (arith, c.requires.0, c.requires.1, s.high, s.reals, pow_mono {i = s.m} {j = 8} s.high)

pub returns : goal.returns
unfolding votes_of
returns c =
    vote_next _ _ c.args.k c.args.j _ _ _ c.requires.2 c.vote_at.ensures c.add.ensures
