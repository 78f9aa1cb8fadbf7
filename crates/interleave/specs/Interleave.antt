-- What interleave and deinterleave answer and leave, for every input (docs/REQUIREMENTS.md: Rearrange and Put back): the questions of both
-- calls, their answer, and the target slice after each.
unfoldable pub use Rattle.interleave_theory.specs.Group.{group_refusal, group_answer, rearrange_target, put_back_target}
