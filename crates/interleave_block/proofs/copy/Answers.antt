-- `copy` meets its contract.
use native.Mathlib.Omega.{arith}
use Rattle.interleave_block.proofs.CopyLaws.{copied_start, copied_next, copied_all}
use Rattle.interleave_block.proofs.copy.Goals as goal

pub loop-k-init : goal.loop-k-init
loop-k-init c = (omega arith, copied_start _ _ _ _)

pub loop-k-preserved : goal.loop-k-preserved
loop-k-preserved c =
    (omega arith, copied_next c.loop-k.k _ _ _ _ _ (omega (arith, c.loop-k.invariant.1.size)) c.loop-k.invariant.1)

pub returns : goal.returns
returns c = let l = c.loop-k in copied_all l.k _ _ _ _ _ _ (omega arith) l.invariant.1
