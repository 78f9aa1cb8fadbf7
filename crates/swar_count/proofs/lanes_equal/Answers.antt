-- `lanes_equal` meets its contract: all lanes are marked.
use mathlib.Core.Path.{◌∙◌, refl}
use native.Mathlib.Omega.{arith}
use Rattle.code_theory.specs.Sum.{every}
use Rattle.swar_theory.specs.Internal.{digit}
use Rattle.swar_count.proofs.EqualLaws.{mask_is, marked_some, every_marked}
use Rattle.swar_count.proofs.lanes_equal.Goals as goal

pub marked_equal-requires : goal.marked_equal-requires
unfolding every digit
marked_equal-requires c =
    let m = mask_is _ refl in
    (c.requires.0, c.requires.1, m, omega (arith, marked_some c.args.x c.args.v _ m, c.requires.2))

pub returns : goal.returns
returns c = c.marked_equal.ensures ∙ every_marked c.args.x c.args.v
