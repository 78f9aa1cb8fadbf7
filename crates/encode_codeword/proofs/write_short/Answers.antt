-- `write_short` meets its contract: each coefficient doubles what is written.
use Rattle.std.proofs.Common.{arith, ap, refl}
use Rattle.code_theory.specs.Sum.{at}
use Rattle.encode_codeword.proofs.Doubling.{fits_less, length_so_far, eights, grow_asks, grow_gives, doubled_by}
use Rattle.encode_codeword.proofs.write_short.Goals as goal

pub write_8-requires : goal.write_8-requires
write_8-requires g c = fits_less _ _ 3 _ _ _ (omega arith) (omega arith) refl c.requires.0

pub double-requires : goal.double-requires
double-requires g c =
    let k = c.loop-k.k in
    let e = length_so_far k (omega (arith, c.requires.0.high)) in
    let asks = grow_asks _ _ k _ _ _ _ c.requires.0 c.loop-k.invariant (omega arith) e in
    (asks.0, c.requires.0.below _ (omega arith), asks.2, rw e (eights k (omega arith)), asks.3)

pub loop-k-preserved : goal.loop-k-preserved
loop-k-preserved g c =
    grow_gives _ _ c.loop-k.k _ _ _ _ c.requires.0 c.loop-k.invariant (omega arith) (length_so_far c.loop-k.k (omega (arith, c.requires.0.high))) _
    (doubled_by _ _ _ _ _ _ (ap (at c.args.message.now) (omega arith)) c.double.ensures)
