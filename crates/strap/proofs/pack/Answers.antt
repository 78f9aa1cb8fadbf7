-- `pack` meets its contract: what the questions give, and the five numbers stored.
use Rattle.std.proofs.Common.{refl, ◌∙◌}
use Rattle.code_questions.proofs.RefusalLaws.{passed, passed_answer, passed_after, stopped_answer, stopped_after}
use Rattle.code_questions.specs.Refusal.{no_values}
use Rattle.strap.specs.Strap.{pack_answer, pack_message}
use Rattle.strap.proofs.StrapLaws.{stored, packable}
use Rattle.strap.proofs.pack.Goals as goal

pub returns-in_err-ask_pack : goal.returns-in_err-ask_pack
unfolding pack_answer pack_message
returns-in_err-ask_pack c =
    let e = c.in_err-ask_pack.ensures in
    record { answer = stopped_answer _ _ _ e _ _ _ c.from_residual.ensures.1; buffer = stopped_after _ _ _ e _ _ }

pub store-requires : goal.store-requires
store-requires c = (packable _ _ (passed _ _ c.in_ok-ask_pack.ensures)).0

pub returns : goal.returns
unfolding pack_answer pack_message no_values
returns c =
    let e = c.in_ok-ask_pack.ensures in
    record { answer = passed_answer _ _ e _ _ _ refl; buffer = (c.store.ensures ∙ stored _ _) ∙ passed_after _ _ e _ _ }
