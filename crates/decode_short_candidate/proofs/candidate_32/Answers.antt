-- `candidate_32` meets its contract.
use mathlib.Core.Path.{ap}
use native.Mathlib.Omega.{arith}
use Rattle.code_theory.proofs.QuestionLaws.{alphabet_positive}
use Rattle.swar_lanes.specs.Internal.{lane_bit}
use Rattle.decode_short_candidate.specs.Internal.{message}
use Rattle.swar_majority.specs.Internal.{fifteen_of}
use Rattle.decode_short_candidate.proofs.ChoiceLaws.{most_by}
use Rattle.decode_short_candidate.proofs.CandidateLaws.{below_6, candidate_32}
use Rattle.decode_short_candidate.proofs.candidate_32.Goals as goal

pub fifteen-c4-requires : goal.fifteen-c4-requires
fifteen-c4-requires c =
    (c.requires.0, omega arith, omega arith, omega arith)

pub rest-left-requires : goal.rest-left-requires
unfolding message
rest-left-requires c =
    let z = alphabet_positive c.args.q c.requires.0 in
    (c.requires.0, c.requires.1, below_6 _ _ _ _ _ _ _ z c.fifteen-c0.ensures.fits c.fifteen-c1.ensures.fits c.fifteen-c2.ensures.fits c.fifteen-c3.ensures.fits z)

pub fifteen-a-requires : goal.fifteen-a-requires
fifteen-a-requires c =
    (c.requires.0, omega arith, omega arith, omega arith)

pub returns : goal.returns
unfolding lane_bit message
returns c =
    candidate_32 c.args.q c.args.x c.args.y _ _ _ _ _ _ _ _ c.less-d.result c.rest-left.result _ _ _ _ _ _ c.requires.0 c.requires.1 c.requires.2
    c.votes_in.ensures c.votes_in-2.ensures c.fifteen-c0.ensures
    c.votes_in-3.ensures c.votes_in-4.ensures c.fifteen-c1.ensures
    c.votes_in-5.ensures c.votes_in-6.ensures c.fifteen-c2.ensures
    c.votes_in-7.ensures c.votes_in-8.ensures c.fifteen-c3.ensures
    c.less-d.ensures (most_by _ _ _ _ _ (ap (λ z. fifteen_of c.less-d.result z 2 4 8) c.partners.ensures) c.fifteen-c4.ensures)
    c.rest-left.ensures (most_by _ _ _ _ _ (ap (λ z. fifteen_of c.rest-left.result z 2 4 8) c.partners-2.ensures) c.fifteen-a.ensures)
