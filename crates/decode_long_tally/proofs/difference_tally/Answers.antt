-- `difference_tally` meets its contract.
use native.Mathlib.Omega.{arith}
use Rattle.std.proofs.Common.{length-append}
use Rattle.std.proofs.lemmas.Slice.Zip.{zip_turn, zip_end}
use Rattle.swar_lanes.proofs.LaneLaws.{less_below}
use Rattle.decode_long_tally.proofs.TallyLaws.{listed, differences_none, differences_next, differences_all}
use Rattle.decode_long_tally.proofs.difference_tally.Goals as goal

pub loop-a-init : goal.loop-a-init
loop-a-init c = differences_none c.args.q c.args.x.now c.args.y.now

pub lane_tally-t-requires : goal.lane_tally-t-requires
lane_tally-t-requires c =
    listed c.args.q _ _ c.requires.0 c.requires.3 (less_below c.args.q _ _ _ c.requires.0 c.less.ensures)

pub loop-a-preserved : goal.loop-a-preserved
loop-a-preserved c =
    let l = c.loop-a in
    let u = c.lane_tally-t.ensures in
    let (i, j, a, b) = zip_turn c.args.x.now c.args.y.now l.yielded c.into_iter-a-iterator.result l.a-iterator c.next.new.self c.next.result (cc) (cc)
    l.yielded_by _ c.in-Some.is c.next.ensures.steps in
    simp length-append (differences_next c.args.q c.args.x.now c.args.y.now _ _ _ _ _ _ i j l.invariant (a 0) (b 0) c.less.ensures u.0 u.1)

pub returns : goal.returns
returns c =
    let l = c.loop-a in
    let end = zip_end c.args.x.now c.args.y.now l.yielded c.into_iter-a-iterator.result l.a-iterator c.next.new.self c.next.result (cc) (cc)
    l.yielded_by c.in-None.is c.next.ensures.steps in
    differences_all c.args.q c.args.x.now c.args.y.now _ _ (omega (arith, end, c.requires.4)) c.requires.0 c.requires.5 l.invariant
