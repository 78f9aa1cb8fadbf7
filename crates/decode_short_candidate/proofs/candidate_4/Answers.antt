-- `candidate_4` meets its contract.
use Rattle.decode_short_candidate.specs.Internal.{message}
use Rattle.decode_short_candidate.proofs.ChoiceLaws.{most_one}
use Rattle.decode_short_candidate.proofs.CandidateLaws.{candidate_4}
use Rattle.decode_short_candidate.proofs.candidate_4.Goals as goal

pub returns-clause-symbols : goal.returns-clause-symbols
unfolding message
returns-clause-symbols c =
    let al = c.requires.0 in
    candidate_4 c.args.q c.args.x _ _ _ _ _ al c.requires.1
    c.votes_in.ensures (most_one _ _ _ al c.symbol-c0.ensures)
    c.votes_in-2.ensures (most_one _ _ _ al c.symbol-c1.ensures)
    (most_one _ _ _ al c.symbol.ensures)
