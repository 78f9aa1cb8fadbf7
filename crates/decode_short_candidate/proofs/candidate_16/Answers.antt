-- `candidate_16` meets its contract.
use Rattle.decode_short_candidate.specs.Internal.{message}
use Rattle.code_theory.proofs.QuestionLaws.{alphabet_positive}
use Rattle.swar_lanes.specs.Internal.{lane_bit}
use Rattle.decode_short_candidate.proofs.CandidateLaws.{below_6, candidate_16}
use Rattle.decode_short_candidate.proofs.candidate_16.Goals as goal

pub rest-left-requires : goal.rest-left-requires
unfolding message
rest-left-requires c =
    let z = alphabet_positive c.args.q c.requires.0 in
    (c.requires.0, c.requires.1, below_6 _ _ _ _ _ _ _ z c.seven-c0.ensures.fits c.seven-c1.ensures.fits c.seven-c2.ensures.fits c.seven-c3.ensures.fits z)

pub returns-clause-symbols : goal.returns-clause-symbols
unfolding lane_bit message
returns-clause-symbols c =
    candidate_16 c.args.q c.args.x _ _ _ _ _ _ _ _ _ _ c.requires.0 c.requires.1
    c.votes_in.ensures c.seven-c0.ensures
    c.votes_in-2.ensures c.seven-c1.ensures
    c.votes_in-3.ensures c.seven-c2.ensures
    c.votes_in-4.ensures c.seven-c3.ensures
    c.rest-left.ensures c.seven.ensures
