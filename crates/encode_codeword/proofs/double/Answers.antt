-- `double` meets its contract.
use Rattle.std.proofs.Common.{◌+◌, ◌*◌, ◌%◌, arith, ap, ◌∙◌}
use Rattle.encode_codeword.proofs.Doubling.{filled_eight, doubled_halves}
use Rattle.encode_codeword.proofs.double.Goals as goal

pub loop-c-preserved : goal.loop-c-preserved
loop-c-preserved c =
    filled_eight _ _ _ _ c.loop-c.high _ (8 * c.loop-c.c) _ _ (omega arith) c.loop-c.invariant
    (λ i h. c.plus-x.ensures i h ∙ ap (λ x. (x + c.args.a) % c.args.q) (c.eight.ensures i h))
    c.put_eight.ensures

pub returns : goal.returns
returns c =
    doubled_halves _ _ _ (8 * c.loop-c.c) _ _ _ c.loop-c.high c.split_at_mut-low.ensures.value c.split_at_mut-low.ensures.front_len (omega arith) (omega arith) c.loop-c.invariant
