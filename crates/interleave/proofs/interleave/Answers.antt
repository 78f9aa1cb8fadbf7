-- `interleave` meets its contract: `move_group` gives the refusal and leaves the target.
use Rattle.std.proofs.Common.{◌∙◌}
use Rattle.code_questions.proofs.RefusalLaws.{answered_none}
use Rattle.interleave_theory.specs.Group.{group_answer}
use Rattle.interleave_theory.proofs.GroupLaws.{rearrange_moves}
use Rattle.interleave.proofs.interleave.Goals as goal

pub returns : goal.returns
unfolding group_answer
returns c = let e = c.move_group.ensures in
    record {
      answer = answered_none _ _ e.answer;
      buffer = e.buffer ∙ rearrange_moves _ _ _ _ _;
    }
