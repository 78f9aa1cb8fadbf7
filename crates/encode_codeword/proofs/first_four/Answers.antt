-- `first_four` meets its contract: each product holds a symbol in the places that it is added to.
use Rattle.encode_codeword.proofs.Lanes.{four_code}
use Rattle.encode_codeword.proofs.first_four.Goals as goal

pub returns : goal.returns
returns c =
    four_code c.args.s.now _ _ _ c.requires c.from.ensures c.from-2.ensures c.from-3.ensures
