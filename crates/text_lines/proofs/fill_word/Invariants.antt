-- The loop's invariant: the symbols of the digits passed are put.
use Rattle.std.proofs.Common.{◌≡◌, length, take}
use Rattle.text_buffer.specs.Text.{put}
use Rattle.text_lines.specs.Line.{word_of}
use Rattle.text_lines.proofs.fill_word.Given as goal

abbrev pub invariant-loop-i : goal.invariant-loop-i
invariant-loop-i l = (length l.word ≡ 16) × (l.word ≡ put l.initial.word 0 (take l.i (word_of l.line)))
