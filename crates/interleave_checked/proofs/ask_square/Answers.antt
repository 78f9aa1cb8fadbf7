-- `ask_square` meets its contract.
use Rattle.code_theory.proofs.QuestionLaws.{alphabet_positive}
use Rattle.interleave_checked.proofs.ask_square.Goals as goal

pub all_below-requires : goal.all_below-requires
all_below-requires c = alphabet_positive _ c.requires
