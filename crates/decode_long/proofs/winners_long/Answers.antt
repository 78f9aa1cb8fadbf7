-- `winners_long` meets its contract: the winners of the coefficients, and with their word the winner of the constant.
use mathlib.Core.Path.{refl, ◌∙◌}
use native.Mathlib.Omega.{arith}
use lib.ListN.{length-set}
use lib.Seq.{get_or-set_same}
use Rattle.code_theory.proofs.WordLaws.{bounds, word_length}
use Rattle.decode_long_winner.proofs.WinnerLaws.{next_le}
use Rattle.decode_long.proofs.FirstLaws.{first_fits, votes_le, winning}
use Rattle.decode_long.proofs.ConstantLaws.{long_room, long_code, constant_leads}
use Rattle.decode_long.proofs.LongLaws.{zeros_empty}
use Rattle.decode_long.proofs.winners_long.Goals as goal

pub pairs-requires : goal.pairs-requires
pairs-requires c =
    (c.requires.1, omega (arith, bounds c.args.q c.requires.0.alphabet), refl)

pub long_tallies-requires : goal.long_tallies-requires
long_tallies-requires c =
    (c.requires.0, c.requires.2, c.pairs.ensures, zeros_empty, refl)

pub coefficients-least-requires : goal.coefficients-least-requires
coefficients-least-requires c =
    (c.requires.0.alphabet, c.requires.0.high, length-set c.args.message.now 0 0 ∙ c.requires.3, get_or-set_same c.args.message.now 0 0 0 (omega (arith, c.requires.3)))

pub write-requires : goal.write-requires
write-requires c =
    let t = c.coefficients-least.ensures c.args.word.now c.long_tallies.ensures.2 in
    first_fits _ _ _ _ _ _ c.requires.0 t (long_room _ _ c.requires.0.high refl)

pub long_constant-r-requires : goal.long_constant-r-requires
long_constant-r-requires c =
    let p = c.pairs in
    let x = c.long_tallies.ensures in
    let t = c.coefficients-least.ensures c.args.word.now x.2 in
    let w = c.write.ensures in
    let room = long_room _ _ c.requires.0.high w.size in
    (long_code _ _ _ _ _ c.requires.0 t.zeroth room w.coded c.requires.2 w.size, p.ensures, x.0, zeros_empty)

pub overflow_cast-word : goal.overflow_cast-word
overflow_cast-word c =
    omega (arith, word_length _ _ _ c.requires.0)

pub set_constant-requires : goal.set_constant-requires
set_constant-requires c =
    let x = c.long_tallies.ensures in
    let t = c.coefficients-least.ensures c.args.word.now x.2 in
    let w = c.write.ensures in
    let room = long_room _ _ c.requires.0.high w.size in
    let l = constant_leads _ _ _ _ _ c.requires.0 t.zeroth room w.coded _ _ _ (c.long_constant-r.ensures _ x.1) in
    (omega (arith, l.inside, bounds c.args.q c.requires.0.alphabet), votes_le _ _ _ _ c.requires.0 _ t _ _ _ l, next_le _ _ _ _ _ l, t.size)

pub returns : goal.returns
returns c =
    let x = c.long_tallies.ensures in
    let t = c.coefficients-least.ensures c.args.word.now x.2 in
    let w = c.write.ensures in
    let room = long_room _ _ c.requires.0.high w.size in
    let l = constant_leads _ _ _ _ _ c.requires.0 t.zeroth room w.coded _ _ _ (c.long_constant-r.ensures _ x.1) in
    winning _ _ _ _ c.requires.0 _ t _ _ _ l _ _ _ c.set_constant.ensures.0 c.set_constant.ensures.1 c.set_constant.ensures.2
