-- `further` meets its contract: an `and` with q - 1 leaves the remainder by q.
use Prim.Native.Nat.{◌+◌}
use native.Mathlib.Omega.{arith}
use native.Mathlib.Nat.{mod-lt}
use Rattle.code_theory.proofs.QuestionLaws.{alphabet, alphabet_bounds, alphabet_positive, mask_mod}
use Rattle.decode_short_verify.proofs.further.Goals as goal

pub overflow_add-result : goal.overflow_add-result
overflow_add-result c = record { fits = omega (arith, c.requires.1, c.requires.2, alphabet_bounds c.args.q (alphabet c.args.q c.requires.0)) }

pub returns : goal.returns
returns c =
    let e = mask_mod c.args.q (c.args.a + c.args.c4) (alphabet c.args.q c.requires.0) in
    (e, omega (arith, e, mod-lt (c.args.a + c.args.c4) (alphabet_positive c.args.q c.requires.0)))
