-- `differences` meets its contract: of the places passed, so many differ.
use Rattle.std.proofs.Common.{refl, arith}
use Rattle.code_theory.specs.Sum.{at}
use Rattle.decode_near_places.proofs.DifferingLaws.{none_yet, next_more, differ_byte, differ_bit}
use Rattle.decode_near_places.proofs.differences.Goals as goal

pub loop-i-init : goal.loop-i-init
loop-i-init c = (omega arith, none_yet _ _ 0)

pub loop-i-preserved : goal.loop-i-preserved
loop-i-preserved c =
    let s = c.args in
    let l = c.loop-i in
    let d = differ_byte (at s.code.now l.i) (at s.word.now l.i) _ c.from-wrong.ensures in
    let more = next_more s.code.now s.word.now l.i _ _ refl refl in
    (omega (arith, l.invariant.0, d, differ_bit (at s.code.now l.i) (at s.word.now l.i)), omega (arith, l.invariant.1, d, more))
