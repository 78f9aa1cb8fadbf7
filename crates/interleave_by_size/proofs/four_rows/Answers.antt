-- `four_rows` meets its contract: two shuffles transpose four rows.
use mathlib.Core.Path.{◌∙◌}
use Rattle.interleave_theory.proofs.PlaceLaws.{transposed_is}
use Rattle.interleave_by_size.proofs.four_rows.Goals as goal

pub returns : goal.returns
returns c = let f = c.shuffle_twice.ensures in transposed_is _ _ _ _ (f.size ∙ c.requires.1) f.places
