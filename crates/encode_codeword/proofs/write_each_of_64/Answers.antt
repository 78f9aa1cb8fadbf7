-- `write_each_of_64` meets its contract.
use Rattle.std.proofs.Common.{arith}
use Rattle.encode_codeword.proofs.Doubling.{six_written, fits_small, seven_of, seven_read}
use Rattle.encode_codeword.proofs.write_each_of_64.Goals as goal

pub place-requires : goal.place-requires
place-requires c =
    let small = fits_small _ _ c.args.message.now _ c.requires in
    λ k l. omega (arith, seven_read c.args.message.now k l, small.below k (omega arith))

pub returns : goal.returns
returns c =
    let cut = c.split_at_mut-first.ensures in
    six_written _ c.loop-i.i _ (seven_of c.args.message.now) _ _ _ c.loop-i.first cut.value cut.front_len (omega arith) (omega arith)
    (seven_read c.args.message.now) c.loop-i.invariant
