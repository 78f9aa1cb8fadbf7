-- `shuffle_four_times` meets its contract, by the law of four shuffles.
use mathlib.Core.Path.{◌∙◌}
use Rattle.interleave_shuffle.proofs.ShuffleLaws.{shuffled_four_times}
use Rattle.interleave_shuffle.proofs.shuffle_four_times.Goals as goal

pub returns : goal.returns
returns c =
    let fourth = c.shuffle-4 in
    let third = c.shuffle-3 in
    let second = c.shuffle-2 in
    let first = c.shuffle in
    record {
      places = shuffled_four_times _ _ _ _ _ _ first.ensures.places second.ensures.places third.ensures.places fourth.ensures.places;
      size = fourth.ensures.size ∙ second.ensures.size;
    }
