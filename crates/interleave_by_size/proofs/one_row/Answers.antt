-- `one_row` meets its contract: one row is one column.
use mathlib.Core.Path.{◌∙◌}
use Rattle.interleave_by_size.proofs.SizeLaws.{row_is_column}
use Rattle.interleave_by_size.proofs.one_row.Goals as goal

pub returns : goal.returns
returns c = c.rows.ensures ∙ row_is_column _ _
