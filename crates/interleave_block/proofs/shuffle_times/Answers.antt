-- `shuffle_times` meets its contract.
use mathlib.Core.Path.{refl, sym, ◌∙◌}
use native.Mathlib.Omega.{arith}
use Rattle.interleave_shuffle.proofs.ShuffleLaws.{rounds_next}
use Rattle.interleave_block.proofs.RoundLaws.{rounds_copied, rounds_all, copied_out, divided}
use Rattle.interleave_block.proofs.shuffle_times.Goals as goal

pub loop-k-init : goal.loop-k-init
loop-k-init c =
    let d = c.copy.ensures in
    (omega arith, refl, d.size, rounds_copied _ _ _ _ _ refl d)

pub loop-k-preserved : goal.loop-k-preserved
loop-k-preserved c =
    let l = c.loop-k in
    let d = c.reshuffle.ensures in
    (omega arith, d.size.0, d.size.1, rounds_next l.k _ _ _ _ l.invariant.3 d.places)

pub returns : goal.returns
returns c =
    let l = c.loop-k in
    let e = divided _ _ c.requires.3 in
    copied_out _ _ _ _ _ _ _ (sym e) (c.requires.2 ∙ sym e) ((rounds_all l.k _ _ _ _ (omega arith) l.invariant.3).each _ e) c.copy-2.ensures
