-- `move_sixteen` meets its contract: each way does what the call does, and in three of them the count is the literal.
use Rattle.std.proofs.Common.{◌≡◌, true, sym, ◌∙◌, refl, arith}
use Rattle.std.proofs.lemmas.Result.{err_from_is_err_and}
use Rattle.code_questions.specs.Internal.{refusal}
use Rattle.code_questions.proofs.RefusalLaws.{asked_yes}
use Rattle.interleave_theory.specs.Group.{is_group}
use Rattle.interleave_theory.proofs.RefusalLaws.{refused_14}
use Rattle.interleave_theory.proofs.GroupLaws.{sixteen_places}
use Rattle.interleave.proofs.WayLaws.{no_asked, moved_no, small_moves, square_moves, any_limit, any_moves}
use Rattle.interleave.proofs.move_sixteen.Goals as goal

pub returns-then-count-eq2 : goal.returns-then-count-eq2
returns-then-count-eq2 g c =
    let p = small_moves _ _ _ _ _ _ c.requires g.met.W.Way.whole 2 16 _ (omega arith) (omega arith) (omega arith) refl c.shuffles.ensures _ _ c.small.ensures in
    record { answer = p.0; buffer = p.1 }

pub returns-then-count-eq4 : goal.returns-then-count-eq4
returns-then-count-eq4 g c =
    let p = small_moves _ _ _ _ _ _ c.requires g.met.W.Way.whole 4 32 _ (omega arith) (omega arith) (omega arith) refl c.shuffles-then-count-eq4.ensures _ _ c.small-then-count-eq4.ensures in
    record { answer = p.0; buffer = p.1 }

pub returns-then-count-eq16 : goal.returns-then-count-eq16
returns-then-count-eq16 g c =
    let p = square_moves _ _ _ _ _ _ c.requires g.met.W.Way.whole (omega arith) (g.met.W.Way.square 16) _ _ c.square.ensures in
    record { answer = p.0; buffer = p.1 }

pub returns-in_err-ask : goal.returns-in_err-ask
unfolding refusal
returns-in_err-ask g c =
    let p = err_from_is_err_and c.from_residual.result c.from_residual.ensures.1 in
    let (refused, e) = no_asked _ _ _ c.in_err-ask.ensures in
    let k = moved_no _ 4 _ _ _ _ _ _ (e ∙ refused_14 _ 4 _ _ _ c.requires sixteen_places (sym c.is_group.ensures ∙ refused)) in
    record { answer = rw (p.1, p.2) k.0; buffer = k.1 }

pub any_size-requires : goal.any_size-requires
unfolding refusal
any_size-requires g c =
    let s = c.args in
    let w = c.rows-rows.ensures in
    let group : is_group s.count ≡ true = sym c.is_group.ensures ∙ asked_yes c.in_ok-ask.field-0 _ 13 c.in_ok-ask.ensures in
    (c.requires, any_limit s.q 4 s.count _ _ _ _ w.0 w.1 (g.met.W.Way.whole _ _ ∙ omega arith) sixteen_places group)

pub returns : goal.returns
unfolding refusal
returns g c =
    let s = c.args in
    let w = c.rows-rows.ensures in
    let group : is_group s.count ≡ true = sym c.is_group.ensures ∙ asked_yes c.in_ok-ask.field-0 _ 13 c.in_ok-ask.ensures in
    let p = any_moves s.q 4 s.count _ _ _ _ w.0 w.1 (g.met.W.Way.whole s.count 16) sixteen_places group _ _ c.requires _ _ c.any_size.ensures in
    record { answer = p.0; buffer = p.1 }
