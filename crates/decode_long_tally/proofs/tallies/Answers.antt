-- `tallies` meets its contract.
use native.Mathlib.Omega.{arith}
use Rattle.decode_long_tally.proofs.CountLaws.{tallied_none, tallied_all}
use Rattle.decode_long_tally.proofs.tallies.Goals as goal

pub put-requires : goal.put-requires
put-requires c =
    (c.requires.0, c.requires.1, omega (arith, c.requires.0.low), λ w p. tallied_none _ _ w _ c.requires.2)

pub put-requires-2 : goal.put-requires-2
put-requires-2 c =
    (c.requires.0, c.requires.1, omega (arith, c.requires.0.low), c.put.ensures)

pub put-requires-3 : goal.put-requires-3
put-requires-3 c =
    (c.requires.0, c.requires.1, omega (arith, c.requires.0.low), c.put-2.ensures)

pub put-requires-4 : goal.put-requires-4
put-requires-4 c =
    (c.requires.0, c.requires.1, omega (arith, c.requires.0.low), c.put-3.ensures)

pub loop-k-init : goal.loop-k-init
loop-k-init c = (omega (arith, c.requires.0.low), c.put-4.ensures)

pub put-requires-in-loop-k : goal.put-requires-in-loop-k
put-requires-in-loop-k c =
    (c.requires.0, c.requires.1, omega (arith, c.requires.0.low), c.loop-k.invariant.1)

pub loop-k-preserved : goal.loop-k-preserved
loop-k-preserved c = (omega arith, c.put-in-loop-k.ensures)

pub returns : goal.returns
returns c w p = tallied_all _ _ c.loop-k.k _ w _ (omega arith) (c.loop-k.invariant.1 w p)
