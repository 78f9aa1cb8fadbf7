-- `spread` meets its contract: a product with a one in each byte.
use Rattle.std.proofs.Common.{arith}
use Rattle.swar_bytes.proofs.Parts.{same_eight}
use Rattle.encode_codeword.proofs.spread.Goals as goal

pub returns : goal.returns
returns c = rw c.from.ensures (same_eight _ (omega arith))
