-- `left` meets its contract: the code is subtracted first, then the constant.
use Rattle.std.proofs.Common.{◌+◌, arith}
use Rattle.code_theory.proofs.QuestionLaws.{alphabet_positive}
use Rattle.decode_short_errors.proofs.PlaceLaws.{plain_below}
use Rattle.decode_short_verify.proofs.VerifyLaws.{left_is, left_below}
use Rattle.decode_short_verify.proofs.left.Goals as goal

pub code-requires : goal.code-requires
code-requires c = (c.requires.0, λ k h. c.requires.3 (k + 1) (omega (arith, h)))

pub errors-requires : goal.errors-requires
errors-requires c =
    (c.requires.0, c.requires.1, plain_below c.args.q _ c.code.result c.requires.0 c.code.ensures, c.requires.2)

pub returns : goal.returns
returns c =
    let h = alphabet_positive c.args.q c.requires.0 in
    let l = left_is c.args.q c.args.x c.args.a c.args.symbols.now _ c.errors.result h c.code.ensures c.errors.ensures in
    (l, left_below c.args.q c.args.x _ _ c.errors.result h l)
