-- What decode answers and leaves, by its questions and by the reading. Assumes nothing.
use Rattle.std.specs.Prelude.{ℕ, ◌≡◌, ◌≢◌, List, [], ◌∷◌, Option, Some, None}
use Rattle.std.proofs.Common.{arith, ap, ap₂, sym, ◌∙◌}
use Rattle.code_theory.specs.Question.{accepted, refused}
use Rattle.code_theory.proofs.QuestionLaws.{ask_on, ask_no, answer_yes, answer_no, after_yes, after_no}
use Rattle.std.specs.Option.{ok_or}
use Rattle.code_questions.specs.declared.Refusal.{Refusal}
use Rattle.code_questions.specs.declared.Refusal.TheVariants.{Doubtful}
use Rattle.code_questions.specs.Refusal.{number, answered}
use Rattle.code_questions.proofs.RefusalLaws.{number_some, refused_answer, refused_after}
use Rattle.decode_reading.specs.Internal.{Settled}
use Rattle.decode_reading.specs.declared.Reading.{Reading}
use Rattle.codec.specs.Codec.{decode_refusal, decode_answer, decode_message, reading_values}
use Rattle.codec.specs.Internal.{word_refusal}
use Rattle.codec.proofs.Accepted.{decode_never, decode_later}

module _ (q m : ℕ) (message w : List ℕ) where
  -- a question before 9 is answered no
  pub decode_refused : (r : Refusal) → number r ≡ word_refusal q m message w
      → (refused (number r) ≡ decode_answer q m message w) × (message ≡ decode_message q m message w)
  unfolding decode_answer decode_message
  decode_refused r e =
      let d : word_refusal q m message w ≢ 0 = λ z. absurd (omega (arith, number_some r, e, z)) in
      let f : number r ≡ decode_refusal q m message w = e ∙ sym (decode_never q m message w d) in
      rw (sym f) (sym (refused_answer r _), sym (refused_after r _ _))

  -- all before 9 are answered yes: by whether the word is read
  pub decode_settled : word_refusal q m message w ≡ 0 → (t : List ℕ) (r : Option Reading) → Settled q m w message t r
      → (answered reading_values (ok_or r Doubtful) ≡ decode_answer q m message w) × (t ≡ decode_message q m message w)
  unfolding Settled answered reading_values decode_answer decode_message
  decode_settled z t None (f, x) =
      let e : decode_refusal q m message w ≡ 9 = decode_later q m message w z ∙ ask_no _ _ _ f in
      let g : decode_refusal q m message w ≢ 0 = λ y. absurd (omega (arith, e, y)) in
      (sym (ap refused e) ∙ sym (answer_no _ _ g), x ∙ sym (after_no _ _ _ g))
  decode_settled z t (Some reading) (a, b, c, d) =
      let e : decode_refusal q m message w ≡ 0 = decode_later q m message w z ∙ ask_on _ _ _ a in
      (ap₂ (λ x y. accepted (x ∷ y ∷ [])) (sym c) (sym d) ∙ sym (answer_yes _ _ e), sym b ∙ sym (after_yes _ _ _ e))
