-- `square` meets its contract: what is copied and shuffled four times is transposed.
use mathlib.Core.Path.{◌∙◌}
use native.Mathlib.Omega.{arith}
use Rattle.interleave_shuffle.proofs.ShuffleLaws.{shuffled_four_times}
use Rattle.interleave_theory.proofs.PlaceLaws.{transposed_is}
use Rattle.interleave_block.proofs.RoundLaws.{copied_in}
use Rattle.interleave_block.proofs.square.Goals as goal

pub returns : goal.returns
returns c =
    let last = c.shuffle-4.ensures in
    let turned = shuffled_four_times 16 _ _ _ _ _ c.shuffle.ensures.places c.shuffle-2.ensures.places c.shuffle-3.ensures.places last.places in
    transposed_is 16 16 _ _ (last.size ∙ c.requires.1) (copied_in 256 16 16 _ _ _ _ (omega arith) c.copy.ensures turned)
