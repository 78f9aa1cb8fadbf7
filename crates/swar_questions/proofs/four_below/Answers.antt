-- `four_below` meets its contract: the remainders are the symbols exactly where each is below q.
use native.Mathlib.Omega.{arith}
use Rattle.swar_questions.proofs.MaskLaws.{mask_tells}
use Rattle.swar_questions.proofs.four_below.Goals as goal

pub returns : goal.returns
returns c = mask_tells _ _ _ _ _ _ c.requires.0 (omega arith) c.four-x.ensures c.mask.ensures
