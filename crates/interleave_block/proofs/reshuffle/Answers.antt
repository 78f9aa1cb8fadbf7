-- `reshuffle` meets its contract: halves that are taken apart and shuffled.
use mathlib.Core.Path.{◌∙◌}
use Rattle.interleave_block.proofs.RoundLaws.{apart_shuffled}
use Rattle.interleave_block.proofs.reshuffle.Goals as goal

pub returns : goal.returns
returns c =
    let last = c.shuffle in
    let second = c.copy-2 in
    let first = c.copy in
    let e = c.requires in
    record {
      places = apart_shuffled _ _ _ _ _ _ e.0 first.ensures second.ensures last.ensures.places;
      size = (second.ensures.size ∙ first.ensures.size ∙ e.1, last.ensures.size ∙ e.2);
    }
