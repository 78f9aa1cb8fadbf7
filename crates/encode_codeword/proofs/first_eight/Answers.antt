-- `first_eight` meets its contract: the first four places, and above them the same four plus a_2.
use Rattle.encode_codeword.proofs.Lanes.{eight_code}
use Rattle.encode_codeword.proofs.first_eight.Goals as goal

pub returns : goal.returns
returns c =
    eight_code c.args.s.now _ _ c.requires c.first_four-four.ensures c.from.ensures
