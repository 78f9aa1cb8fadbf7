-- `near_within` meets its contract: the buffer holds the word of the message when it is compared.
use Rattle.std.proofs.Common.{◌≡◌, ℕ, ◌^◌, ◌≤◌, length, replicate, sym, arith}
use Rattle.std.proofs.lemmas.List.{length-replicate}
use Rattle.std.proofs.lemmas.Result.{err_from_is_err_and}
use Rattle.code_theory.proofs.QuestionLaws.{variables_bounds}
use Rattle.code_questions.specs.Internal.{refusal}
use Rattle.code_questions.specs.Refusal.{answered}
use Rattle.decode_near.specs.Nearness.{encode_refusal}
use Rattle.decode_near.proofs.NearLaws.{near_refused, buffer_fits, quarters_fit, near_told}
use Rattle.decode_near.proofs.near_within.Goals as goal

pub returns-in_err-ask_slices : goal.returns-in_err-ask_slices
unfolding refusal answered
returns-in_err-ask_slices g c =
    let p = err_from_is_err_and c.from_residual.result c.from_residual.ensures.1 in rw (p.1, p.2) (near_refused _ _ _ _ _ c.in_err-ask_slices.ensures)

pub write-requires : goal.write-requires
unfolding refusal
write-requires g c =
    let room : 2 ^ c.args.m ≤ length (replicate g.row.N 0) = omega (arith, length-replicate {A = ℕ}) in
    let yes : let s = c.args in encode_refusal s.q s.m s.message.now s.word.now ≡ 0 = sym c.in_ok-ask_slices.ensures in
    buffer_fits _ _ _ _ yes _ room

pub overflow_sub-m : goal.overflow_sub-m
overflow_sub-m g c = (variables_bounds _ c.requires.1).0

pub pow2-requires : goal.pow2-requires
pow2-requires g c = omega (arith, (variables_bounds _ c.requires.1).1)

pub few_differ-requires : goal.few_differ-requires
unfolding refusal
few_differ-requires g c =
    let room : 2 ^ c.args.m ≤ length (replicate g.row.N 0) = omega (arith, length-replicate {A = ℕ}) in
    let yes : let s = c.args in encode_refusal s.q s.m s.message.now s.word.now ≡ 0 = sym c.in_ok-ask_slices.ensures in
    quarters_fit _ _ _ _ yes _ c.pow2.ensures _ _ c.write.ensures room

pub returns : goal.returns
unfolding refusal answered
returns g c =
    let yes : let s = c.args in encode_refusal s.q s.m s.message.now s.word.now ≡ 0 = sym c.in_ok-ask_slices.ensures in
    near_told _ _ _ _ yes _ c.pow2.ensures _ _ _ c.write.ensures c.few_differ.ensures
