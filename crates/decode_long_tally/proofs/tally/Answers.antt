-- `tally` meets its contract.
use native.Mathlib.Omega.{arith}
use Rattle.decode_long_tally.proofs.TallyLaws.{few_ballots, ballots_none, reach, listed, ballots_next, ballots_all}
use Rattle.decode_long_tally.proofs.tally.Goals as goal

pub overflow_sub-m : goal.overflow_sub-m
overflow_sub-m c = omega (arith, c.requires.0.low)

pub pow2-j-end-requires : goal.pow2-j-end-requires
pow2-j-end-requires c = omega (arith, c.requires.0.high)

pub loop-j-init : goal.loop-j-init
loop-j-init c = (omega arith, c.pow2-j-end.ensures, ballots_none c.args.q c.args.m c.args.k c.args.x.now)

pub ballot-requires : goal.ballot-requires
ballot-requires c =
    reach c.args.q c.args.m c.args.k c.args.x.now c.requires.0 c.requires.2 _ (omega arith)

pub lane_tally-t-requires : goal.lane_tally-t-requires
lane_tally-t-requires c =
    listed c.args.q _ _ c.requires.0.alphabet c.requires.1 c.ballot.ensures.1

pub overflow_add-t : goal.overflow_add-t
overflow_add-t c =
    let l = c.loop-j in
    omega (arith, l.invariant.1, l.invariant.2.0, few_ballots c.args.q c.args.m c.args.k c.args.x.now c.requires.0 c.requires.2, c.lane_tally-t.ensures.1)

pub loop-j-preserved : goal.loop-j-preserved
loop-j-preserved c =
    let l = c.loop-j in
    let b = c.ballot.ensures.0 in
    let u = c.lane_tally-t.ensures in
    (omega arith, l.invariant.1, ballots_next c.args.q _ c.args.k c.args.x.now c.requires.0 c.requires.2 l.j l.t _ _ (omega arith) l.invariant.2 b u.0 u.1)

pub returns : goal.returns
returns c =
    ballots_all c.args.q c.args.m c.args.k c.args.x.now c.requires.0 c.requires.2 c.loop-j.j _ (omega arith) c.loop-j.invariant.2
