-- `move_group` meets its contract, by the answers to the questions asked so far.
use Rattle.std.proofs.Common.{◌^◌, ◌≡◌, true, sym, ap, ◌∙◌, arith}
use Rattle.std.proofs.lemmas.Result.{err_from_is_err_and}
use Rattle.code_theory.specs.Question.{is_alphabet, is_variables}
use Rattle.code_theory.proofs.QuestionLaws.{variables_bounds}
use Rattle.code_questions.specs.Internal.{refusal}
use Rattle.code_questions.proofs.RefusalLaws.{asked_yes}
use Rattle.interleave_theory.specs.Group.{is_group}
use Rattle.interleave_theory.proofs.RefusalLaws.{refused_1, refused_2, refused_14}
use Rattle.interleave.proofs.WayLaws.{no_asked, moved_no, any_limit, any_moves, moved_at}
use Rattle.interleave.proofs.move_group.Goals as goal

pub returns-in_err-ask : goal.returns-in_err-ask
unfolding refusal
returns-in_err-ask g c =
    let p = err_from_is_err_and c.from_residual.result c.from_residual.ensures.1 in
    let (refused, e) = no_asked _ _ _ c.in_err-ask.ensures in
    let k = moved_no _ _ _ _ _ _ _ _ (e ∙ refused_1 _ _ _ _ _ (sym c.is_alphabet.ensures ∙ refused)) in
    record { answer = rw (p.1, p.2) k.0; buffer = k.1 }

pub move_sixteen-requires : goal.move_sixteen-requires
unfolding refusal
move_sixteen-requires g c = sym c.is_alphabet.ensures ∙ asked_yes c.in_ok-ask.field-0 _ 0 c.in_ok-ask.ensures

pub returns-then-m-eq4 : goal.returns-then-m-eq4
returns-then-m-eq4 g c =
    let p = moved_at _ 4 c.args.m c.args.count g.W.Way.rows g.W.Way.columns _ _ _ _ (omega arith) (c.move_sixteen.ensures.answer, c.move_sixteen.ensures.buffer) in
    record { answer = p.0; buffer = p.1 }

pub returns-in_err-ask-2 : goal.returns-in_err-ask-2
unfolding refusal
returns-in_err-ask-2 g c =
    let p = err_from_is_err_and c.from_residual-in_err-ask-2.result c.from_residual-in_err-ask-2.ensures.1 in
    let alphabet : is_alphabet c.args.q ≡ true = sym c.is_alphabet.ensures ∙ asked_yes c.in_ok-ask.field-0 _ 0 c.in_ok-ask.ensures in
    let (refused, e) = no_asked _ _ _ c.in_err-ask-2.ensures in
    let k = moved_no _ _ _ _ _ _ _ _ (e ∙ refused_2 _ _ _ _ _ alphabet (sym c.is_variables.ensures ∙ refused)) in
    record { answer = rw (p.1, p.2) k.0; buffer = k.1 }

pub returns-in_err-ask-3 : goal.returns-in_err-ask-3
unfolding refusal
returns-in_err-ask-3 g c =
    let p = err_from_is_err_and c.from_residual-in_err-ask-3.result c.from_residual-in_err-ask-3.ensures.1 in
    let alphabet : is_alphabet c.args.q ≡ true = sym c.is_alphabet.ensures ∙ asked_yes c.in_ok-ask.field-0 _ 0 c.in_ok-ask.ensures in
    let variables : is_variables c.args.m ≡ true = sym c.is_variables.ensures ∙ asked_yes c.in_ok-ask-2.field-0 _ 1 c.in_ok-ask-2.ensures in
    let (refused, e) = no_asked _ _ _ c.in_err-ask-3.ensures in
    let k = moved_no _ _ _ _ _ _ _ _ (e ∙ refused_14 _ _ _ _ _ alphabet variables (sym c.is_group.ensures ∙ refused)) in
    record { answer = rw (p.1, p.2) k.0; buffer = k.1 }

pub pow2-requires : goal.pow2-requires
unfolding refusal
pow2-requires g c =
    let variables : is_variables c.args.m ≡ true = sym c.is_variables.ensures ∙ asked_yes c.in_ok-ask-2.field-0 _ 1 c.in_ok-ask-2.ensures in
    (variables_bounds _ variables).1

pub any_size-requires : goal.any_size-requires
unfolding refusal
any_size-requires g c =
    let s = c.args in
    let w = g.W.Way in
    let r = c.rows-rows.ensures.0 ∙ ap (λ n. w.rows s.count n) c.pow2.ensures in
    let l = c.rows-rows.ensures.1 ∙ ap (λ n. w.columns s.count n) c.pow2.ensures in
    let alphabet : is_alphabet s.q ≡ true = sym c.is_alphabet.ensures ∙ asked_yes c.in_ok-ask.field-0 _ 0 c.in_ok-ask.ensures in
    let variables : is_variables s.m ≡ true = sym c.is_variables.ensures ∙ asked_yes c.in_ok-ask-2.field-0 _ 1 c.in_ok-ask-2.ensures in
    let group : is_group s.count ≡ true = sym c.is_group.ensures ∙ asked_yes c.in_ok-ask-3.field-0 _ 13 c.in_ok-ask-3.ensures in
    (alphabet, any_limit s.q s.m s.count _ _ _ _ r l (g.met.W.Way.whole s.count (2 ^ s.m)) variables group)

pub returns : goal.returns
unfolding refusal
returns g c =
    let s = c.args in
    let w = g.W.Way in
    let r = c.rows-rows.ensures.0 ∙ ap (λ n. w.rows s.count n) c.pow2.ensures in
    let l = c.rows-rows.ensures.1 ∙ ap (λ n. w.columns s.count n) c.pow2.ensures in
    let alphabet : is_alphabet s.q ≡ true = sym c.is_alphabet.ensures ∙ asked_yes c.in_ok-ask.field-0 _ 0 c.in_ok-ask.ensures in
    let variables : is_variables s.m ≡ true = sym c.is_variables.ensures ∙ asked_yes c.in_ok-ask-2.field-0 _ 1 c.in_ok-ask-2.ensures in
    let group : is_group s.count ≡ true = sym c.is_group.ensures ∙ asked_yes c.in_ok-ask-3.field-0 _ 13 c.in_ok-ask-3.ensures in
    let p = any_moves s.q s.m s.count _ _ _ _ r l (g.met.W.Way.whole s.count (2 ^ s.m)) variables group _ _ alphabet _ _ c.any_size.ensures in
    record { answer = p.0; buffer = p.1 }
