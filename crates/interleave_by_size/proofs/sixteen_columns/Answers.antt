-- `sixteen_columns` meets its contract, by the numbers of the case.
use native.Mathlib.Omega.{arith}
use Rattle.interleave_by_size.proofs.SizeLaws.{by_rows}
use Rattle.interleave_by_size.proofs.sixteen_columns.Goals as goal

pub returns-then-a-eq8 : goal.returns-then-a-eq8
returns-then-a-eq8 c = by_rows c.args.a 8 _ _ _ (omega arith) c.shuffle_times.ensures
