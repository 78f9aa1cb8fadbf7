-- `soft_read` meets its contract: its ends are a no to the questions up to 10, an unsure decision, and the message.
use mathlib.Core.Path.{refl, sym, ◌∙◌}
use lib.Seq.{length-take-le}
use Rattle.std.proofs.lemmas.Result.{err_from_is_err_and}
use Rattle.code_questions.specs.Internal.{refusal}
use Rattle.soft.proofs.Refusals.{read_accepted}
use Rattle.soft.proofs.ReadLaws.{read_out, read_sure, coefficients_out, coefficients_told, constant_out, constant_told, all_yes, message_fits, message_is, some_symbol}
use Rattle.soft.proofs.soft_read.Goals as goal

pub returns-in_err-ask_samples : goal.returns-in_err-ask_samples
unfolding refusal
returns-in_err-ask_samples c =
    let p = err_from_is_err_and c.from_residual.result c.from_residual.ensures.1 in
    let o = read_out _ _ _ _ _ c.in_err-ask_samples.ensures in
    record { answer = rw (p.1, p.2) o.0; buffer = o.1 }

pub invariant_of-samples : goal.invariant_of-samples
unfolding refusal
invariant_of-samples c =
    let s = (read_accepted _ _ _ _ (sym c.in_ok-ask_samples.ensures)).0 in
    record { low = s.low; high = s.high; reals = s.reals; imaginaries = s.imaginaries }

pub coefficients-requires : goal.coefficients-requires
coefficients-requires c = (refl, refl)

pub returns-in_err-ok_or : goal.returns-in_err-ok_or
unfolding refusal
returns-in_err-ok_or c =
    let p = err_from_is_err_and c.from_residual-in_err-ok_or.result c.from_residual-in_err-ok_or.ensures.1 in
    let o = coefficients_out _ _ _ _ c.in_ok-ask_samples.ensures _ _ _ c.coefficients.ensures c.in_err-ok_or.ensures.value in
    record { answer = rw (p.1, p.2) o.0; buffer = o.1 }

pub constant-requires : goal.constant-requires
constant-requires c = (coefficients_told _ _ _ _ _ _ c.coefficients.ensures c.in_ok-ok_or.ensures.value).1

pub returns-in_err-found : goal.returns-in_err-found
unfolding refusal
returns-in_err-found c =
    let p = err_from_is_err_and c.from_residual-in_err-found.result c.from_residual-in_err-found.ensures.1 in
    let o = constant_out _ _ _ _ c.in_ok-ask_samples.ensures _ _ c.constant.ensures c.in_err-found.ensures.value in
    record { answer = rw (p.1, p.2) o.0; buffer = o.1 }

pub slice_bounds-found-end : goal.slice_bounds-found-end
unfolding refusal
slice_bounds-found-end c =
    let (s, l) = read_accepted _ _ _ _ (sym c.in_ok-ask_samples.ensures) in
    message_fits _ _ _ _ _ c.in_ok-found.field-0 _ l s.high (coefficients_told _ _ _ _ _ _ c.coefficients.ensures c.in_ok-ok_or.ensures.value).1

pub slice_bounds-copy_from_slice-end : goal.slice_bounds-copy_from_slice-end
unfolding refusal
slice_bounds-copy_from_slice-end c =
    let (s, l) = read_accepted _ _ _ _ (sym c.in_ok-ask_samples.ensures) in
    sym (length-take-le _ _ (message_fits _ _ _ _ _ c.in_ok-found.field-0 _ l s.high (coefficients_told _ _ _ _ _ _ c.coefficients.ensures c.in_ok-ok_or.ensures.value).1))

pub copy_from_slice-requires : goal.copy_from_slice-requires
unfolding refusal
copy_from_slice-requires c =
    let (s, l) = read_accepted _ _ _ _ (sym c.in_ok-ask_samples.ensures) in
    sym (length-take-le _ _ (message_fits _ _ _ _ _ c.in_ok-found.field-0 _ l s.high (coefficients_told _ _ _ _ _ _ c.coefficients.ensures c.in_ok-ok_or.ensures.value).1))

pub returns : goal.returns
unfolding refusal
returns c =
    let (s, l) = read_accepted _ _ _ _ (sym c.in_ok-ask_samples.ensures) in
    let (all, found) = coefficients_told _ _ _ _ _ _ c.coefficients.ensures c.in_ok-ok_or.ensures.value in
    let last = constant_told _ _ _ c.constant.ensures c.in_ok-found.ensures.value in
    let o = read_sure _ _ _ _ c.in_ok-ask_samples.ensures (all_yes _ _ _ _ all last) _
    (c.copy_from_slice.ensures.after ∙ message_is _ _ _ _ c.in_ok-found.field-0 _ l s.high found (some_symbol _ _ last).1) in
    record { answer = o.0; buffer = o.1 }
