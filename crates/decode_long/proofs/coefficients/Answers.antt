-- `coefficients` meets its contract.
use Prim.Native.Nat.{◌<◌}
use native.Mathlib.Omega.{arith}
use lib.Seq.{get_or-take}
use Rattle.code_theory.proofs.WordLaws.{bounds}
use Rattle.decode_long_winner.proofs.WinnerLaws.{alone, next_le}
use Rattle.decode_long.proofs.FirstLaws.{first_none, first_next, first_all}
use Rattle.decode_long.proofs.coefficients.Goals as goal

pub loop-k-init : goal.loop-k-init
loop-k-init c w p = first_none _ _ _ _ c.requires.2 c.requires.3

pub overflow_cast-message : goal.overflow_cast-message
overflow_cast-message c = record { fits = omega (arith, c.winner_of-r.ensures.inside, bounds c.args.q c.requires.0) }

pub overflow_sub-r : goal.overflow_sub-r
overflow_sub-r c = next_le _ _ _ _ _ c.winner_of-r.ensures

pub loop-k-preserved : goal.loop-k-preserved
loop-k-preserved c w p =
    let l = c.loop-k in
    let r = c.winner_of-r in
    let k : l.k < c.args.m = omega arith in
    let leads = rw (get_or-take c.args.m c.args.t.now l.k 0 k) at r.ensures in
    first_next _ _ w _ l.k _ _ _ _ _ (omega (arith, c.requires.1)) (l.invariant w p) (alone _ _ _ _ _ _ (p.each l.k k) leads) c.min-least.ensures

pub returns : goal.returns
returns c w p = first_all _ _ _ _ c.loop-k.k _ (omega arith) (c.loop-k.invariant w p)
