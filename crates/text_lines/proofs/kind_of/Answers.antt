-- `kind_of` meets its contract, by the tests that led to each answer.
use mathlib.Core.Path.{sym, ◌∙◌}
use Rattle.text_lines.specs.Internal.{line_of}
use Rattle.text_lines.proofs.LineLaws.{reads_slot, reads_miss, reads_bad}
use Rattle.text_lines.proofs.kind_of.Goals as goal

pub returns-then-is_slot : goal.returns-then-is_slot
unfolding line_of
returns-then-is_slot c = sym (reads_slot _ (sym c.is_slot.ensures ∙ c.if-is_slot.true))

pub returns-then-is_miss : goal.returns-then-is_miss
unfolding line_of
returns-then-is_miss c = sym (reads_miss _ (sym c.is_miss.ensures ∙ c.if-is_miss.true))

pub returns : goal.returns
unfolding line_of
returns c =
    sym (reads_bad _ (sym c.is_slot.ensures ∙ c.if-is_slot.false) (sym c.is_miss.ensures ∙ c.if-is_miss.false))
