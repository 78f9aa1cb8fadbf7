-- `group_below` meets its contract: all symbols are asked about, in parts, eight at a time or one by one.
use native.Mathlib.Omega.{arith}
use Rattle.code_theory.proofs.QuestionLaws.{alphabet_positive}
use Rattle.code_questions.proofs.Whole.{part_all}
use Rattle.interleave_checked.proofs.group_below.Goals as goal

pub returns-then-size-eq0 : goal.returns-then-size-eq0
returns-then-size-eq0 c =
    part_all _ _ _ _ c.parts_below.ensures (omega (arith, c.requires.1, c.if-size-eq0.true))

pub returns-then-size-eq0-2 : goal.returns-then-size-eq0-2
returns-then-size-eq0-2 c =
    part_all _ _ _ _ c.eights_below.ensures (omega (arith, c.requires.1, c.if-size-eq0-2.true))

pub all_below-requires : goal.all_below-requires
all_below-requires c = alphabet_positive _ c.requires.0
