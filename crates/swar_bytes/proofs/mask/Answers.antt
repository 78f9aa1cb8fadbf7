-- `mask` meets its contract: a product with a one in each byte.
use Rattle.std.proofs.Common.{arith}
use Rattle.code_theory.proofs.QuestionLaws.{alphabet, alphabet_bounds}
use Rattle.swar_bytes.proofs.Parts.{same_eight}
use Rattle.swar_bytes.proofs.mask.Goals as goal

pub overflow_sub-q : goal.overflow_sub-q
overflow_sub-q c = omega (arith, alphabet_bounds c.args.q (alphabet c.args.q c.requires))

pub overflow_mul-result : goal.overflow_mul-result
overflow_mul-result c = omega (arith, alphabet_bounds c.args.q (alphabet c.args.q c.requires))

pub returns : goal.returns
returns c = rw c.from.ensures (same_eight _ (omega (arith, alphabet_bounds c.args.q (alphabet c.args.q c.requires))))
