-- `are_sized` meets its contract, by the test that led to each answer.
use mathlib.Core.Path.{◌∙◌}
use mathlib.Core.Bool.{true, false}
use borrow.Author.Tests.{eq-eqb, ne_eqb}
use Rattle.soft.proofs.Refusals.{sizes_are}
use Rattle.soft.proofs.are_sized.Goals as goal

pub returns-then-re-n : goal.returns-then-re-n
returns-then-re-n c =
    sizes_are c.args.m c.pow2-n.result c.args.re.now c.args.im.now true c.pow2-n.ensures (eq-eqb _ _ c.if-re-n.true)

pub returns-else-re-n : goal.returns-else-re-n
returns-else-re-n c =
    let f = ne_eqb _ _ c.if-re-n.false in
    f ∙ sizes_are c.args.m c.pow2-n.result c.args.re.now c.args.im.now false c.pow2-n.ensures f
