-- `all_below` meets its contract: the symbols from place 0 on are the whole.
use mathlib.Core.Path.{refl}
use Rattle.code_questions.proofs.Whole.{part_all}
use Rattle.code_questions.proofs.all_below.Goals as goal

pub returns : goal.returns
returns c = part_all _ _ _ _ c.top_below.ensures refl
