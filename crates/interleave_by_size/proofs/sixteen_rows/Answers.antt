-- `sixteen_rows` meets its contract, by the numbers of the case.
use mathlib.Core.Path.{◌∙◌}
use native.Mathlib.Omega.{arith}
use Rattle.interleave_theory.proofs.PlaceLaws.{transposed_is}
use Rattle.interleave_by_size.proofs.SizeLaws.{by_columns}
use Rattle.interleave_by_size.proofs.sixteen_rows.Goals as goal

pub returns-then-b-eq8 : goal.returns-then-b-eq8
returns-then-b-eq8 c = by_columns _ c.args.b 8 _ _ (omega arith) c.shuffle_times.ensures

pub returns : goal.returns
returns c = let f = c.shuffle_four_times.ensures in transposed_is _ _ _ _ (f.size ∙ c.requires.1) f.places
