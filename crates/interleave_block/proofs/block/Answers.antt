-- `block` meets its contract: its rows are taken, transposed by shuffles, and put where they belong.
use Prim.Native.Nat.{◌+◌, ◌*◌}
use mathlib.Core.Path.{refl}
use native.Mathlib.Nat.{zero-mul}
use native.Mathlib.Omega.{arith}
use Rattle.interleave_block.proofs.CopyLaws.{rows_as, copied_rows}
use Rattle.interleave_block.proofs.BlockLaws.{block_done}
use Rattle.interleave_block.proofs.block.Goals as goal

pub returns : goal.returns
returns c =
    let n = c.args.n in
    let k = c.args.k in
    let taken = rows_as _ _ (16 * k) (0 * n + 16 * k) _ _ _ _ _ _ (omega (arith, zero-mul n)) refl c.copy_rows.ensures in
    let put = rows_as _ _ _ _ _ _ _ (256 * k) (16 * k * 16 + 0) _ refl (omega arith) (copied_rows _ _ _ _ _ c.copy.ensures) in
    block_done 16 n (16 * k) 0 _ _ _ _ _ _ (omega arith) taken c.shuffle_four_times.ensures.places put c.requires.2
