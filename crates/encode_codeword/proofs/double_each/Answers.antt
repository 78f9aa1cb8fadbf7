-- `double_each` meets its contract.
use Rattle.std.proofs.Common.{arith}
use Rattle.encode_codeword.proofs.Doubling.{doubled_halves}
use Rattle.code_theory.proofs.QuestionLaws.{alphabet, alphabet_bounds}
use Rattle.encode_codeword.proofs.double_each.Goals as goal

pub overflow_add-x : goal.overflow_add-x
overflow_add-x c =
    let i = c.loop-i.i in
    omega (arith, c.split_at_mut-low.ensures.by_index.0 i 0 (omega arith), c.requires.3 i (omega arith), alphabet_bounds c.args.q (alphabet c.args.q c.requires.0))

pub returns : goal.returns
returns c =
    doubled_halves _ _ _ c.loop-i.i _ _ _ c.loop-i.high c.split_at_mut-low.ensures.value c.split_at_mut-low.ensures.front_len (omega arith) (omega arith) c.loop-i.invariant
