-- `transpose` meets its contract: in each case the number of rows is the literal.
use native.Mathlib.Omega.{arith}
use Rattle.interleave_by_size.proofs.SizeLaws.{size_by_rows, by_rows}
use Rattle.interleave_by_size.proofs.transpose.Goals as goal

pub one_row-requires : goal.one_row-requires
one_row-requires c =
    (size_by_rows c.args.a 1 c.args.b _ (omega arith) c.requires.0, size_by_rows c.args.a 1 c.args.b _ (omega arith) c.requires.1)

pub two_rows-requires : goal.two_rows-requires
two_rows-requires c =
    (size_by_rows c.args.a 2 c.args.b _ (omega arith) c.requires.0, size_by_rows c.args.a 2 c.args.b _ (omega arith) c.requires.1)

pub four_rows-requires : goal.four_rows-requires
four_rows-requires c =
    (size_by_rows c.args.a 4 c.args.b _ (omega arith) c.requires.0, size_by_rows c.args.a 4 c.args.b _ (omega arith) c.requires.1)

pub sixteen_rows-requires : goal.sixteen_rows-requires
sixteen_rows-requires c =
    (size_by_rows c.args.a 16 c.args.b _ (omega arith) c.requires.0, size_by_rows c.args.a 16 c.args.b _ (omega arith) c.requires.1)

pub returns-in-1 : goal.returns-in-1
returns-in-1 c = by_rows c.args.a 1 _ _ _ (omega arith) c.one_row.ensures

pub returns-in-2 : goal.returns-in-2
returns-in-2 c = by_rows c.args.a 2 _ _ _ (omega arith) c.two_rows.ensures

pub returns-in-4 : goal.returns-in-4
returns-in-4 c = by_rows c.args.a 4 _ _ _ (omega arith) c.four_rows.ensures

pub returns-in-16 : goal.returns-in-16
returns-in-16 c = by_rows c.args.a 16 _ _ _ (omega arith) c.sixteen_rows.ensures
