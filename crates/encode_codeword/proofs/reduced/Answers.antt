-- `reduced` meets its contract: a mask with q - 1 in each byte is the remainder in each.
use Rattle.encode_codeword.proofs.Lanes.{reduced_each}
use Rattle.encode_codeword.proofs.reduced.Goals as goal

pub returns : goal.returns
returns c = reduced_each _ _ _ c.requires c.mask.ensures
