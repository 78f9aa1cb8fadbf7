-- `blocks_back` meets its contract.
use Prim.Native.Nat.{◌+◌, ◌*◌}
use mathlib.Core.Path.{refl, sym, ◌∙◌}
use native.Mathlib.Omega.{arith}
use Rattle.interleave_block.proofs.BlockLaws.{done_rows, done_as, none_done, all_done}
use Rattle.interleave_block.proofs.blocks_back.Goals as goal

pub loop-k-init : goal.loop-k-init
loop-k-init c = (omega arith, none_done _ _ _ _ c.requires.1)

pub block_back-requires : goal.block_back-requires
block_back-requires c = (c.requires.0, omega (arith, c.requires.2), c.loop-k.invariant.1)

pub loop-k-preserved : goal.loop-k-preserved
loop-k-preserved c =
    let l = c.loop-k in
    (omega arith, done_as _ _ _ _ (16 * l.k + 16) _ _ _ refl (omega arith) c.block_back.ensures)

pub shape_of-to : goal.shape_of-to
shape_of-to c = c.loop-k.invariant.1.size ∙ sym c.requires.1

pub returns : goal.returns
returns c =
    let l = c.loop-k in
    all_done _ _ _ _ (done_rows _ _ _ _ _ (done_as _ _ _ _ (16 * l.k) _ _ _ refl (omega (arith, c.requires.2)) l.invariant.1))
