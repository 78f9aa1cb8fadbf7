-- `put_pair` meets its contract: two bytes stored side by side.
use native.Mathlib.Omega.{arith}
use lib.ListN.{length-set}
use Rattle.text_buffer.proofs.PutLaws.{put_two}
use Rattle.text_buffer.proofs.put_pair.Goals as goal

pub bounds-out-at-2 : goal.bounds-out-at-2
bounds-out-at-2 c =
    omega (arith, c.requires.1, length-set c.args.out.now c.args.at c.digit.result)

pub returns : goal.returns
returns c =
    put_two c.args.out.now c.args.at _ _ _ _ c.requires.1 c.digit.ensures c.digit-2.ensures
