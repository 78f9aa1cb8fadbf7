-- What each answer of encode and decode says, for their callers. Assumes nothing.
use Prim.Native.Nat.{ℕ, ◌≤◌}
use mathlib.Core.Path.{◌≡◌, ap, sym, ◌∙◌}
use mathlib.Core.Logic.{◌≢◌}
use mathlib.Core.List.{List}
use native.Mathlib.Omega.{arith}
use lib.Pow.{pow_mono}
use Rattle.code_theory.specs.Sum.{at}
use Rattle.code_theory.specs.Vote.{tally}
use Rattle.code_theory.specs.Margin.{lead, margin}
use Rattle.code_theory.specs.Nearest.{near_message, near_distance, near_margin}
use Rattle.code_theory.proofs.CodeLaws.{distance_le}
use Rattle.code_theory.proofs.MarginLaws.{least_le}
use Rattle.code_theory.proofs.ErrorLaws.{votes_le_half}
use Rattle.std.specs.Prelude.{Result, Ok, Err, ⊤}
use Rattle.code_questions.specs.declared.Refusal.{Refusal}
use Rattle.code_questions.specs.Refusal.{number, answered, no_values}
use Rattle.code_questions.proofs.RefusalLaws.{answered_ok, answered_err}
use Rattle.codec.specs.Codec.{encode_refusal, encode_answer, decode_refusal, decode_answer, reading_values}
use Rattle.decode_reading.specs.declared.Reading.{Reading}
use Rattle.codec.proofs.Accepted.{readable, decode_word}

module _ (q m : ℕ) (message word : List ℕ) where
  module _ (r : Result ⊤ Refusal) (e : answered no_values r ≡ encode_answer q m message word) where
    pub encode_written : (a : ⊤) → r ≡ Ok a → encode_refusal q m message word ≡ 0
    unfolding encode_answer
    encode_written a f = (answered_ok _ _ _ a (sym (ap (answered no_values) f) ∙ e)).0

    pub encode_number_lem : (x : Refusal) → r ≡ Err x → (number x ≡ encode_refusal q m message word) × (encode_refusal q m message word ≢ 0)
    unfolding encode_answer
    encode_number_lem x f = answered_err _ _ _ x (sym (ap (answered no_values) f) ∙ e)

  module _ (r : Result Reading Refusal) (e : answered reading_values r ≡ decode_answer q m message word) where
    pub decode_read : (s : Reading) → r ≡ Ok s → (decode_refusal q m message word ≡ 0) × (s.wrong ≡ near_distance q m word) × (s.margin ≡ near_margin q m word)
    unfolding reading_values decode_answer
    decode_read s f =
        let (z, x) = answered_ok _ _ _ s (sym (ap (answered reading_values) f) ∙ e) in
        (z, cc, cc)

    pub decode_number_lem : (x : Refusal) → r ≡ Err x → (number x ≡ decode_refusal q m message word) × (decode_refusal q m message word ≢ 0)
    unfolding decode_answer
    decode_number_lem x f = answered_err _ _ _ x (sym (ap (answered reading_values) f) ∙ e)

    -- the count and the margin of an accepted word are small
    pub decode_small : (s : Reading) → r ≡ Ok s → (s.wrong ≤ 256) × (s.margin ≤ 256)
    unfolding near_distance near_margin margin lead tally
    decode_small s f =
        let (z, x, y) = decode_read s f in
        let sized = (readable q m message word (decode_word q m message word z)).sized in
        let n = pow_mono {i = m} {j = 8} sized.high in
        let t = at (near_message q m word) in
        let lead_le = least_le m (λ k. lead q (t k) (tally q m t (at word) k)) 1 (omega (arith, sized.low)) in
        let votes_le = votes_le_half q m 0 (at word) (omega (arith, sized.low)) (t 1) in
        (omega (arith, x, distance_le q m t (at word), n), omega (arith, y, lead_le, votes_le, n))
