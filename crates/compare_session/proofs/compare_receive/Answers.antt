-- `compare_receive` meets its contract: the numbers of a delivery are its values, and a refusal that leaves the session is not 9.
use Rattle.std.proofs.Common.{ap, sym, ◌∙◌}
use Rattle.code_theory.proofs.QuestionLaws.{number_yes, number_no}
use Rattle.session_receiver.specs.Receiving.{receive_answer, receive_session, receive_message, received, received_values, received_session}
use Rattle.compare_session.specs.Internal.{with_receiver}
use Rattle.compare_session.proofs.AnswerLaws.{is_four_yes, is_four_no, is_four_lem, both_four, second_no, found, cond_yes, cond_no, receiver_put, delivery_put, use_yes, use_doubt, use_no, answer_yes, answer_no}
use Rattle.compare_session.proofs.compare_receive.Goals as goal

pub returns-then-delivery-ne4 : goal.returns-then-delivery-ne4
returns-then-delivery-ne4 c =
    let no = second_no _ _ (found _ _ _ c.in-Some.ensures).0 (is_four_no _ c.if-delivery-ne4.true) in
    record { answer = cond_no _ _ _ no; session = cond_no _ _ _ no; delivery = cond_no _ _ _ no; buffer = cond_no _ _ _ no }

pub put-requires : goal.put-requires
put-requires c = is_four_lem _ (found _ _ _ c.in-Some.ensures).0

pub returns-in-Some-delivery : goal.returns-in-Some-delivery
unfolding received received_values received_session
returns-in-Some-delivery c =
    let (four, s) = found _ _ _ c.in-Some.ensures in
    let l = c.args.session.now in
    let message = c.args.message.now in
    let word = c.args.word.now in
    let delivery = is_four_yes _ c.if-delivery-ne4.false in
    let both = both_four _ _ four delivery in
    let e = c.in-Ok.ensures in
    let answer = sym (ap received_values c.in-Some-delivery.is) ∙ e.answer ∙ ap (λ t. receive_answer t message word) s in
    record {
      answer = number_yes _ _ answer ∙ cond_yes _ _ _ both;
      session =
          c.put.ensures ∙ c.receiver_numbers.ensures ∙ receiver_put _ four _
          ∙ ap (λ t. with_receiver t l) (e.session ∙ ap (λ t. receive_session t message word) s)
          ∙ use_yes _ _ _ _ answer ∙ cond_yes _ _ _ both;
      delivery =
          c.put-in-Some-delivery.ensures ∙ c.delivery_numbers.ensures ∙ delivery_put _ delivery _ ∙ answer_yes _ _ _ answer ∙ cond_yes _ _ _ both;
      buffer = e.buffer ∙ ap (λ t. receive_message t message word) s ∙ cond_yes _ _ _ both;
    }

pub returns-in-None : goal.returns-in-None
unfolding received received_values received_session
returns-in-None c =
    let (four, s) = found _ _ _ c.in-Some.ensures in
    let l = c.args.session.now in
    let message = c.args.message.now in
    let word = c.args.word.now in
    let both = both_four _ _ four (is_four_yes _ c.if-delivery-ne4.false) in
    let e = c.in-Ok.ensures in
    let answer = sym (ap received_values c.in-None.is) ∙ e.answer ∙ ap (λ t. receive_answer t message word) s in
    record {
      answer = c.into.ensures ∙ number_no _ _ answer ∙ cond_yes _ _ _ both;
      session =
          c.put.ensures ∙ c.receiver_numbers.ensures ∙ receiver_put _ four _
          ∙ ap (λ t. with_receiver t l) (e.session ∙ ap (λ t. receive_session t message word) s)
          ∙ use_doubt _ _ _ answer ∙ cond_yes _ _ _ both;
      delivery = answer_no _ _ _ answer ∙ cond_yes _ _ _ both;
      buffer = e.buffer ∙ ap (λ t. receive_message t message word) s ∙ cond_yes _ _ _ both;
    }

pub returns-in-Err : goal.returns-in-Err
unfolding received received_session
returns-in-Err c =
    let (four, s) = found _ _ _ c.in-Some.ensures in
    let message = c.args.message.now in
    let word = c.args.word.now in
    let both = both_four _ _ four (is_four_yes _ c.if-delivery-ne4.false) in
    let e = c.in-Err.ensures in
    let answer = e.answer ∙ ap (λ t. receive_answer t message word) s in
    let kept = sym s ∙ e.session ∙ ap (λ t. receive_session t message word) s in
    record {
      answer = c.into-in-Err.ensures ∙ number_no _ _ answer ∙ cond_yes _ _ _ both;
      session = use_no _ message word _ _ _ answer kept ∙ cond_yes _ _ _ both;
      delivery = answer_no _ _ _ answer ∙ cond_yes _ _ _ both;
      buffer = e.buffer ∙ ap (λ t. receive_message t message word) s ∙ cond_yes _ _ _ both;
    }
