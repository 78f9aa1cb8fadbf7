-- `other_rows` meets its contract: in each case the length of the rows is the literal.
use native.Mathlib.Omega.{arith}
use Rattle.interleave_by_size.proofs.SizeLaws.{size_by_columns, by_columns}
use Rattle.interleave_by_size.proofs.other_rows.Goals as goal

pub rows-requires : goal.rows-requires
rows-requires c =
    (size_by_columns c.args.a c.args.b 1 _ (omega arith) c.requires.0, size_by_columns c.args.a c.args.b 1 _ (omega arith) c.requires.1)

pub sixteen_columns-requires : goal.sixteen_columns-requires
sixteen_columns-requires c =
    (size_by_columns c.args.a c.args.b 16 _ (omega arith) c.requires.0, size_by_columns c.args.a c.args.b 16 _ (omega arith) c.requires.1)

pub returns-in-1 : goal.returns-in-1
returns-in-1 c = by_columns _ c.args.b 1 _ _ (omega arith) c.rows.ensures

pub returns-in-16 : goal.returns-in-16
returns-in-16 c = by_columns _ c.args.b 16 _ _ (omega arith) c.sixteen_columns.ensures
