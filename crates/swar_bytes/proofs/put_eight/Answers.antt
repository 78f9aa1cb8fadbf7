-- `put_eight` meets its contract: the part is written over with the library's bytes.
use Rattle.std.proofs.Common.{arith}
use Rattle.swar_bytes.proofs.Parts.{put_part}
use Rattle.swar_bytes.proofs.put_eight.Goals as goal

pub returns : goal.returns
returns c = put_part 8 _ _ _ _ c.requires (omega arith) (rw c.to_le_bytes-bytes.ensures at c.copy_from_slice.ensures.after)
