-- `write_long` meets its contract: each coefficient doubles what is written.
use Rattle.std.proofs.Common.{arith, refl}
use Rattle.encode_codeword.proofs.Doubling.{fits_less, length_so_far, grow_asks, grow_gives}
use Rattle.encode_codeword.proofs.write_long.Goals as goal

pub write_each_of_64-requires : goal.write_each_of_64-requires
write_each_of_64-requires g c = fits_less _ _ _ _ _ _ (omega arith) (omega arith) refl c.requires.0

pub double_each-requires : goal.double_each-requires
double_each-requires g c =
    let k = c.loop-k.k in
    let e = length_so_far k (omega (arith, c.requires.0.high)) in
    let asks = grow_asks _ _ k _ _ _ _ c.requires.0 c.loop-k.invariant (omega arith) e in
    asks

pub loop-k-preserved : goal.loop-k-preserved
loop-k-preserved g c =
    grow_gives _ _ c.loop-k.k _ _ _ _ c.requires.0 c.loop-k.invariant (omega arith) (length_so_far c.loop-k.k (omega (arith, c.requires.0.high))) _ c.double_each.ensures
