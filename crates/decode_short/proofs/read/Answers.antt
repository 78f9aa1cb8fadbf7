-- `read` meets its contract: the verified candidate settles the reading.
use Prim.Native.Nat.{◌*◌, ◌^◌, ◌≤◌, ◌<◌}
use native.Mathlib.Omega.{arith}
use lib.Pow.{pow_mono}
use Rattle.decode_short_verify.proofs.VerifyLaws.{counted}
use Rattle.decode_reading.proofs.SettleLaws.{settled_doubtful}
use Rattle.decode_short.proofs.SettleLaws.{quarter_is, half_is, sizes, long_enough, symbols_eight, verified_measured, few, damaged, bad_votes}
use Rattle.decode_short.proofs.read.Goals as goal

-- That a word is near, or not, is taken by arithmetic from all that is known, so it holds however the code comes by the quarter.
pub returns-then-t-quarter : goal.returns-then-t-quarter
returns-then-t-quarter g c =
    let r = c.requires.0 in
    let n = quarter_is g.row.M r.low c.requires.1 in
    let z = sizes g.row.M in
    let far : 2 ^ g.row.M ≤ 4 * c.verify-t.result.wrong = grind (arith, n, z) in
    settled_doubtful _ g.row.M _ _ _ (verified_measured _ g.row.M _ _ _ _ r c.requires.1 c.verify-t.ensures.symbols) c.args.s.now far

pub store-requires : goal.store-requires
store-requires g c = (c.requires.1, c.requires.2, symbols_eight c.args.q g.row.M c.args.word.now _ c.requires.0 c.verify-t.ensures.symbols.candidate)

pub returns-then-t-lt2 : goal.returns-then-t-lt2
returns-then-t-lt2 g c =
    let r = c.requires.0 in
    let n = quarter_is g.row.M r.low c.requires.1 in
    let z = sizes g.row.M in
    let near : 4 * c.verify-t.result.wrong < 2 ^ g.row.M = grind (arith, n, z) in
    few _ g.row.M _ _ _ _ r c.requires.1 c.verify-t.ensures.symbols c.args.s.now c.store.new.s _ near (omega arith) c.store.ensures
    (omega (arith, half_is g.row.M r.low c.requires.1))

pub overflow_sub-result : goal.overflow_sub-result
overflow_sub-result g c =
    let r = c.requires.0 in
    omega (arith, half_is g.row.M r.low c.requires.1, pow_mono {i = 2} {j = g.row.M} r.low)

pub margin-requires : goal.margin-requires
margin-requires g c =
    let r = c.requires.0 in
    let n = quarter_is g.row.M r.low c.requires.1 in
    let z = sizes g.row.M in
    let near : 4 * c.verify-t.result.wrong < 2 ^ g.row.M = grind (arith, n, z) in
    let b = bad_votes _ g.row.M _ _ _ _ r c.requires.1 c.verify-t.ensures.symbols in
    let (x, y) = c.verify-t.ensures.lanes in
    counted _ g.row.M _ c.verify-t.result.first _ _ (grind arith) r.alphabet x y (long_enough g.row.M c.verify-t.result.wrong (omega arith) near) c.requires.1 b near

pub returns : goal.returns
returns g c =
    let r = c.requires.0 in
    let n = quarter_is g.row.M r.low c.requires.1 in
    let z = sizes g.row.M in
    let near : 4 * c.verify-t.result.wrong < 2 ^ g.row.M = grind (arith, n, z) in
    damaged _ g.row.M _ _ _ _ r c.requires.1 c.verify-t.ensures.symbols c.args.s.now c.store.new.s c.margin.result near c.store.ensures c.margin.ensures
