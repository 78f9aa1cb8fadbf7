-- `write_8` meets its contract: the digits that are written are the places of the word.
use mathlib.Core.Path.{refl}
use Rattle.encode_codeword.proofs.Lanes.{written_put}
use Rattle.encode_codeword.proofs.Doubling.{fits_small}
use Rattle.encode_codeword.proofs.write_8.Goals as goal

pub first_eight-requires : goal.first_eight-requires
first_eight-requires c = fits_small _ 3 _ _ c.requires

pub returns : goal.returns
returns c =
    let put = c.put_eight.ensures in
    let reduced = c.reduced.ensures in
    let first = c.first_eight.ensures in
    written_put _ 3 8 _ _ _ _ _ refl reduced first put
