-- `place` meets its contract.
use Rattle.std.proofs.Common.{◌+◌, ◌<◌, arith}
use Rattle.encode_codeword.proofs.Doubling.{coefficient, unreduced_none, unreduced_next}
use Rattle.encode_codeword.proofs.place.Goals as goal

pub loop-k-init : goal.loop-k-init
loop-k-init c = record { same = unreduced_none _ _; few = omega (arith, c.requires 0 (omega arith)) }

pub overflow_add-sum : goal.overflow_add-sum
overflow_add-sum c =
    let k = c.loop-k.k in
    let l : k < 6 = omega arith in
    omega (arith, c.loop-k.invariant.few, c.part-sum.ensures.1, coefficient c.args.s.now k l, c.requires (k + 1) (omega arith))

pub loop-k-preserved : goal.loop-k-preserved
loop-k-preserved c =
    let k = c.loop-k.k in
    let l : k < 6 = omega arith in
    record {
      same = unreduced_next c.args.s.now k c.args.i _ _ l c.loop-k.invariant.same c.part-sum.ensures.0;
      few = omega (arith, c.part-sum.ensures.1, coefficient c.args.s.now k l, c.requires (k + 1) (omega arith));
    }
