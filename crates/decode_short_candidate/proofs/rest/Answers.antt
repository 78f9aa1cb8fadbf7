-- `rest` meets its contract.
use Rattle.std.proofs.Common.{◌+◌, arith}
use Rattle.decode_short_errors.proofs.PlaceLaws.{plain_below}
use Rattle.decode_short_candidate.proofs.ChoiceLaws.{rest_is}
use Rattle.decode_short_candidate.proofs.rest.Goals as goal

pub code-requires : goal.code-requires
code-requires c = (c.requires.0, λ k h. c.requires.2 (k + 1) (omega (arith, h)))

pub less-requires : goal.less-requires
less-requires c =
    (c.requires.0, c.requires.1, plain_below c.args.q c.args.symbols.now c.code.result c.requires.0 c.code.ensures)

pub returns : goal.returns
returns c =
    rest_is c.args.q c.args.x c.args.symbols.now c.code.result c.less.result c.code.ensures c.less.ensures
