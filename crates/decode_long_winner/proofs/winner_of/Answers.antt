-- `winner_of` meets its contract.
use native.Mathlib.Omega.{arith}
use Rattle.code_theory.proofs.QuestionLaws.{alphabet, alphabet_bounds}
use Rattle.decode_long_winner.proofs.CounterLaws.{digit_first, digit_start, digit_next, digit_shift}
use Rattle.decode_long_winner.proofs.WinnerLaws.{leads_first, leads_next, leads_all, together_is}
use Rattle.decode_long_winner.proofs.winner_of.Goals as goal

pub loop-v-init : goal.loop-v-init
loop-v-init c =
    let b = alphabet_bounds c.args.q (alphabet c.args.q c.requires) in
    let votes = together_is c.args.t c.args.u 0 _ _ (digit_first _ _ c.low_digit.ensures.0) (digit_first _ _ c.low_digit-2.ensures.0) in
    (omega arith, omega (arith, b), digit_start c.args.t, digit_start c.args.u, leads_first _ _ votes)

pub loop-v-preserved : goal.loop-v-preserved
loop-v-preserved c =
    let l = c.loop-v in
    let i = l.invariant in
    let x = digit_next c.args.t l.v l.a _ i.0 i.2 c.low_digit-in-loop-v.ensures.0 in
    let y = digit_next c.args.u l.v l.b _ i.0 i.3 c.low_digit-in-loop-v-2.ensures.0 in
    let votes = together_is c.args.t c.args.u l.v _ _ x y in (
      omega arith,
      omega arith,
      digit_shift c.args.t l.v _ i.0 i.2,
      digit_shift c.args.u l.v _ i.0 i.3,
      leads_next l.v _ _ _ _ _ _ _ _ i.4 votes c.update-r.ensures,
    )

pub returns : goal.returns
returns c = leads_all _ c.loop-v.v _ _ _ _ (omega arith) c.loop-v.invariant.4
