-- `after_part` meets its contract, by its two tests.
use Rattle.text_chunks.proofs.ReadingLaws.{part_over, part_last, part_rest}
use Rattle.text_chunks.proofs.after_part.Goals as goal

pub returns-then-over : goal.returns-then-over
returns-then-over c = part_over _ _ _ c.if-over.true

pub returns-then-at-end : goal.returns-then-at-end
returns-then-at-end c = part_last _ _ _ c.if-over.false c.if-at-end.true

pub returns : goal.returns
returns c = part_rest _ _ _ c.if-over.false c.if-at-end.false
