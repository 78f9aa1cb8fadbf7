-- `lead_of_two` meets its contract: all wrong votes are for the one wrong value.
use mathlib.Core.Path.{ap, ◌∙◌}
use native.Mathlib.Omega.{arith}
use Prim.Native.Nat.{◌-◌}
use Rattle.swar_count.proofs.EqualLaws.{two_sum}
use Rattle.decode_short_lead.proofs.lead_of_two.Goals as goal

pub total-bad-requires : goal.total-bad-requires
total-bad-requires c = omega (arith, two_sum c.args.x c.requires.0, c.requires.1)

pub overflow_sub-result : goal.overflow_sub-result
overflow_sub-result c =
    omega (arith, c.total-bad.ensures, two_sum c.args.x c.requires.0, c.requires.2)

pub overflow_sub-result-2 : goal.overflow_sub-result-2
overflow_sub-result-2 c =
    omega (arith, c.total-bad.ensures, two_sum c.args.x c.requires.0, c.requires.2)

pub returns : goal.returns
returns c =
    ap (λ n. c.args.half - n - n) (c.total-bad.ensures ∙ two_sum c.args.x c.requires.0)
