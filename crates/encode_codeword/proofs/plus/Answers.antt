-- `plus` meets its contract: no byte is carried into the next.
use Prim.Native.Nat.{◌%◌}
use mathlib.Core.Path.{◌∙◌, ap}
use native.Mathlib.Omega.{arith}
use Rattle.encode_codeword.proofs.Lanes.{plus_holds}
use Rattle.encode_codeword.proofs.plus.Goals as goal

pub overflow_add-x : goal.overflow_add-x
overflow_add-x c =
    omega (arith, (plus_holds c.args.q c.args.a c.args.x _ (omega arith) c.requires.0 c.requires.1 c.requires.2 c.spread.ensures).fits)

pub returns : goal.returns
returns c =
    λ l k. c.reduced.ensures l k
    ∙ ap (λ z. z % c.args.q) ((plus_holds c.args.q c.args.a c.args.x _ (omega arith) c.requires.0 c.requires.1 c.requires.2 c.spread.ensures).each l k)
