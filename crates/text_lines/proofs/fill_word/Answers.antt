-- `fill_word` meets its contract.
use Prim.Native.Nat.{◌<◌, ◌≤◌}
use mathlib.Core.Path.{sym, ◌∙◌}
use native.Mathlib.Omega.{arith}
use lib.ListN.{length, length-set}
use Rattle.text_buffer.proofs.PutLaws.{put_none}
use Rattle.text_lines.proofs.LineLaws.{slot_size, slot_whole, slot_taken, slot_digits, digit_at, word_next, word_all}
use Rattle.text_lines.proofs.fill_word.Goals as goal

pub slice_bounds-digit-items-end : goal.slice_bounds-digit-items-end
slice_bounds-digit-items-end c =
    let line = c.args.line.now in
    omega (arith, slot_size line c.requires.0, slot_taken line c.requires.0)

pub loop-i-init : goal.loop-i-init
loop-i-init c = (c.requires.1, sym (put_none _ 0))

pub overflow_sub-word : goal.overflow_sub-word
overflow_sub-word c =
    let line = c.args.line.now in
    let slot = c.requires.0 in
    rw (slot_whole line slot) (digit_at line (slot_digits line slot) c.loop-i.i (omega (arith, c.loop-i-test.true, slot_taken line slot))).0

pub bounds-word-i : goal.bounds-word-i
bounds-word-i c =
    let line = c.args.line.now in
    let slot = c.requires.0 in
    omega (arith, c.loop-i-test.true, c.loop-i.invariant.0, slot_size line slot, slot_taken line slot)

pub loop-i-preserved : goal.loop-i-preserved
loop-i-preserved c =
    let line = c.args.line.now in
    let slot = c.requires.0 in
    let same = slot_size line slot ∙ sym c.requires.1 in
    let within : c.loop-i.i < length line = omega (arith, c.loop-i-test.true, slot_taken line slot) in
    (simp length-set c.loop-i.invariant.0, rw (slot_whole line slot) (word_next line c.args.word.now c.loop-i.word c.loop-i.i same within c.loop-i.invariant.1))

pub returns : goal.returns
returns c =
    let line = c.args.line.now in
    let slot = c.requires.0 in
    let same = slot_size line slot ∙ sym c.requires.1 in
    let all : length line ≤ c.loop-i.i = omega (arith, c.loop-i-test.false, slot_taken line slot) in
    word_all line c.args.word.now c.loop-i.word c.loop-i.i same all c.loop-i.invariant.1
