-- `write_4` meets its contract: the digits that are written are the places of the word.
use mathlib.Core.Path.{refl}
use native.Mathlib.Omega.{arith}
use Rattle.encode_codeword.proofs.Lanes.{written_put}
use Rattle.encode_codeword.proofs.Doubling.{fits_small}
use Rattle.encode_codeword.proofs.write_4.Goals as goal

pub first_four-requires : goal.first_four-requires
first_four-requires c = fits_small _ 2 _ _ c.requires

pub returns : goal.returns
returns c =
    let put = c.put_four.ensures in
    let reduced = c.reduced.ensures in
    let first = c.first_four.ensures in
    written_put _ 2 4 _ _ _ _ _ refl (λ l k. reduced l (omega arith)) first put
