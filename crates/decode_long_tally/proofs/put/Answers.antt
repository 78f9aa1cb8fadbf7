-- `put` meets its contract.
use native.Mathlib.Omega.{arith}
use Rattle.decode_long_tally.proofs.CountLaws.{tallied_next}
use Rattle.decode_long_tally.proofs.put.Goals as goal

pub returns : goal.returns
returns c w p =
    tallied_next _ _ c.args.k w _ _ (omega (arith, c.requires.0.high)) (c.requires.3 w p) (c.tally.ensures w p)
