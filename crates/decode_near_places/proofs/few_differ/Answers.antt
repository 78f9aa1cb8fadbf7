-- `few_differ` meets its contract: before place i so many places differ, fewer than a quarter of all.
use Prim.Native.Nat.{◌+◌, ◌*◌, ◌≤◌, ◌<◌}
use mathlib.Core.Path.{◌≡◌}
use native.Mathlib.Omega.{arith}
use lib.ListN.{length}
use Rattle.decode_near_places.proofs.DifferingLaws.{none_yet, found_more, at_end, at_quarter}
use Rattle.decode_near_places.proofs.few_differ.Goals as goal
use Rattle.decode_near_places.proofs.few_differ.Goals.{then-found-ne0+else-wrong-quarter, else-found-ne0}

pub loop-i-init : goal.loop-i-init
loop-i-init c = (omega arith, omega arith, omega arith, none_yet _ _ 0)

pub loop-i-preserved : goal.loop-i-preserved
loop-i-preserved c =
    let s = c.args in
    let l = c.loop-i in
    let r = c.run_length-places in
    let f = c.differences-found in
    let end : l.i + r.result ≤ length s.word.now = omega arith in
    let more : (c.if-found-ne0.wrong < s.quarter) × (c.if-found-ne0.wrong ≡ l.wrong + f.result) =
    elim c.if-found-ne0.branch [ then-found-ne0+else-wrong-quarter w ↦ (omega arith, omega arith) | else-found-ne0 w ↦ (omega arith, omega arith) ] in
    (l.invariant.0, omega arith, more.0, omega (arith, more.1, l.invariant.3, found_more s.code.now s.word.now l.i r.result f.result _ (omega arith) end (omega arith) f.ensures.0))

pub returns-then-i-n : goal.returns-then-i-n
returns-then-i-n c =
    let s = c.args in
    let l = c.loop-i in
    at_end s.code.now s.word.now _ _ _ l.i (omega arith) l.invariant.3 l.invariant.2

pub returns-then-wrong-quarter : goal.returns-then-wrong-quarter
returns-then-wrong-quarter c =
    let s = c.args in
    let l = c.loop-i in
    let r = c.run_length-places in
    let f = c.differences-found in
    let within : l.i + r.result ≤ 4 * s.quarter = omega arith in
    at_quarter s.code.now s.word.now _ _ _ l.i r.result within
    (omega (arith, l.invariant.3, found_more s.code.now s.word.now l.i r.result f.result _ (omega arith) (omega arith) (omega arith) f.ensures.0))
    c.if-wrong-quarter.true
