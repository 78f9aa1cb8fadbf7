-- `two_rows` meets its contract: a shuffle transposes two rows.
use mathlib.Core.Path.{◌∙◌}
use Rattle.interleave_theory.proofs.PlaceLaws.{transposed_is}
use Rattle.interleave_by_size.proofs.two_rows.Goals as goal

pub returns : goal.returns
returns c = let f = c.shuffle.ensures in transposed_is _ _ _ _ (f.size ∙ c.requires.1) f.places
