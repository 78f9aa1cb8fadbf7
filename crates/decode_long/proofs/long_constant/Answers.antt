-- `long_constant` meets its contract: the two halves of the word are counted apart.
use native.Mathlib.Omega.{arith}
use Rattle.decode_long.proofs.LongLaws.{front_low, code_packed, code_within, few, part_first, part_second, part_below, long_leads}
use Rattle.decode_long.proofs.long_constant.Goals as goal

pub load-requires : goal.load-requires
load-requires c =
    let w = front_low _ _ _ c.requires.0 _ c.pow2.ensures in
    (w.0, w.1, c.requires.3.size)

pub shared_ref_as_front-split_at : goal.shared_ref_as_front-split_at
shared_ref_as_front-split_at c = omega (arith, c.pow2-half.ensures, few _ _ _ c.requires.0 _ c.pow2.ensures)

pub difference_tally-t-requires : goal.difference_tally-t-requires
difference_tally-t-requires c =
    let k = c.requires.0 in
    let n = c.pow2.ensures in
    let h = c.pow2-half.ensures in
    let s = few _ _ _ k _ n in
    let y = code_within _ _ _ k _ n _ _ c.requires.3 c.load.ensures in
    let x1 = part_first c.pow2-half.result _ c.args.x.now _ (omega (arith, h, s)) (omega arith) c.split_at.ensures.front in
    let y1 = part_first c.pow2-half.result _ c.load.new.x _ (omega (arith, h, s, c.load.ensures.size, c.requires.3.size)) (omega arith) c.split_at-2.ensures.front in (
      k.alphabet,
      part_below _ _ _ _ _ x1 (omega (arith, h, s)) c.requires.2,
      part_below _ _ _ _ _ y1 (omega (arith, h, s)) y,
      c.requires.1,
      omega (arith, x1.size, y1.size),
      omega (arith, x1.size, h, s),
    )

-- It stands before what the second tally requires: the two fronts meet that too, and what is false of them is this.
pub returns : goal.returns
returns c =
    let k = c.requires.0 in
    let n = c.pow2.ensures in
    let h = c.pow2-half.ensures in
    let s = few _ _ _ k _ n in
    let l = c.load in
    let y = code_packed _ _ _ k _ n _ _ c.requires.3 l.ensures in
    let t = c.difference_tally-t in
    let u = c.difference_tally-u in
    long_leads _ _ _ k _ n c.args.x.now l.new.x y c.pow2-half.result _ _ h _ _ _ _
    (part_first c.pow2-half.result _ c.args.x.now _ (omega (arith, h, s)) (omega arith) c.split_at.ensures.front)
    (part_second c.pow2-half.result _ c.args.x.now _ (omega (arith, h, s)) (omega arith) c.split_at.ensures.back)
    (part_first c.pow2-half.result _ l.new.x _ (omega (arith, h, s, l.ensures.size, c.requires.3.size)) (omega arith) c.split_at-2.ensures.front)
    (part_second c.pow2-half.result _ l.new.x _ (omega (arith, h, s, l.ensures.size, c.requires.3.size)) (omega arith) c.split_at-2.ensures.back)
    t.ensures u.ensures _ _ _ c.winner_of.ensures

pub difference_tally-u-requires : goal.difference_tally-u-requires
difference_tally-u-requires c =
    let k = c.requires.0 in
    let n = c.pow2.ensures in
    let h = c.pow2-half.ensures in
    let s = few _ _ _ k _ n in
    let y = code_within _ _ _ k _ n _ _ c.requires.3 c.load.ensures in
    let x2 = part_second c.pow2-half.result _ c.args.x.now _ (omega (arith, h, s)) (omega arith) c.split_at.ensures.back in
    let y2 = part_second c.pow2-half.result _ c.load.new.x _ (omega (arith, h, s, c.load.ensures.size, c.requires.3.size)) (omega arith) c.split_at-2.ensures.back in (
      k.alphabet,
      part_below _ _ _ _ _ x2 (omega (arith, h, s)) c.requires.2,
      part_below _ _ _ _ _ y2 (omega (arith, h, s)) y,
      c.requires.1,
      omega (arith, x2.size, y2.size),
      omega (arith, x2.size, h, s),
    )
