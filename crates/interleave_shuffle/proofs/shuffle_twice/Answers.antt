-- `shuffle_twice` meets its contract, by the law of two shuffles.
use Rattle.interleave_shuffle.proofs.ShuffleLaws.{shuffled_twice}
use Rattle.interleave_shuffle.proofs.shuffle_twice.Goals as goal

pub returns : goal.returns
returns c =
    let last = c.shuffle-2 in
    let first = c.shuffle in
    record {
      places = shuffled_twice _ _ _ _ first.ensures.places last.ensures.places;
      size = last.ensures.size;
    }
