-- `columns` meets its contract.
use mathlib.Core.Path.{refl, ◌∙◌}
use native.Mathlib.Omega.{arith}
use Rattle.interleave_rows.proofs.ColumnLaws.{none_scattered, scattered_all}
use Rattle.interleave_rows.proofs.columns.Goals as goal

pub loop-w-init : goal.loop-w-init
loop-w-init c = (omega arith, refl, none_scattered _ _ _ _)

pub column-requires : goal.column-requires
column-requires c =
    let l = c.loop-w in
    (c.requires.0, l.invariant.1 ∙ c.requires.1, omega arith, l.invariant.2)

pub loop-w-preserved : goal.loop-w-preserved
loop-w-preserved c =
    let l = c.loop-w in
    let f = c.column in
    (omega arith, f.ensures.size ∙ l.invariant.1, f.ensures.places)

pub returns : goal.returns
returns c =
    let l = c.loop-w in
    scattered_all _ _ l.w 0 _ _ (omega arith) (l.invariant.1 ∙ c.requires.1) l.invariant.2
