-- Confirm agrees with Read: a word that Read reads is near exactly the message that it reads, and a doubtful word is near none. Assumes
-- nothing.
use Prim.Native.Nat.{ℕ, suc, ◌<◌}
use mathlib.Core.Path.{◌≡◌, refl, ap, sym, ◌∙◌}
use mathlib.Core.Logic.{◌≢◌}
use mathlib.Core.Bool.{Bool, true, false, cond, true≢false}
use mathlib.Core.List.{List, [], ◌∷◌}
use native.Mathlib.Omega.{arith}
use Rattle.code_theory.specs.Sum.{at}
use Rattle.code_theory.specs.Code.{Symbols}
use Rattle.code_theory.specs.Near.{Near}
use Rattle.code_theory.specs.Nearest.{is_near, is_readable, near_message}
use Rattle.code_theory.specs.Question.{is_alphabet, is_variables, is_message_size, is_word_size, all_below, accepted}
use Rattle.code_theory.proofs.QuestionLaws.{ask_yes, alphabet_positive, message_size, message_yes, below_all, symbols, answer_yes, answer_accepted, after_yes}
use Rattle.code_theory.proofs.NearestLaws.{is_near_true, near_true, near_found, found_near, readable, readable_found}
use Rattle.encode_by_length.proofs.EncodeLaws.{all_yes}
use Rattle.codec.specs.Codec.{decode_refusal, decode_message}
use Rattle.decode_near.specs.Nearness.{encode_refusal, near_answer}

-- where its questions are answered yes, the message is one of m + 1 symbols below q
asked_message : (q m : ℕ) (t w : List ℕ) → encode_refusal q m t w ≡ 0 → (0 < q) × Symbols q (suc m) t
unfolding encode_refusal
asked_message q m t w e =
    let (a, e1) = ask_yes (is_alphabet q) 0 _ e in
    let (b, e2) = ask_yes (is_variables m) 1 _ e1 in
    let (c, e3) = ask_yes (is_message_size m t) 4 _ e2 in
    let (d, e4) = ask_yes (all_below q t) 5 _ e3 in
    (alphabet_positive q a, symbols q (suc m) t (message_size m t c) d)

-- a yes of Confirm means that t is a message, and near the word
yes_near : (q m : ℕ) (t w : List ℕ) → near_answer q m t w ≡ accepted (1 ∷ []) → (0 < q) × Symbols q (suc m) t × Near q m (at t) (at w)
unfolding near_answer
yes_near q m t w e =
    let (z, v) = answer_accepted _ _ _ (sym e) in
    let (positive, h) = asked_message q m t w z in
    (positive, h, is_near_true q m w t (go (is_near q m w t) (ap (λ l. at l 0) v)))
  where
    go : (b : Bool) → at (1 ∷ []) 0 ≡ at (cond b 1 0 ∷ []) 0 → b ≡ true
    go true f = refl
    go false f = absurd (omega (arith, f))

module _ (q m : ℕ) (w : List ℕ) where
  -- Confirm says yes for what Read reads
  pub read_near : (s : List ℕ) → decode_refusal q m s w ≡ 0 → near_answer q m (decode_message q m s w) w ≡ accepted (1 ∷ [])
  unfolding decode_refusal decode_message near_answer
  read_near s e =
      let (a, e1) = ask_yes (is_alphabet q) 0 _ e in
      let (b, e2) = ask_yes (is_variables m) 1 _ e1 in
      let (c, e3) = ask_yes (is_message_size m s) 4 _ e2 in
      let (d, e4) = ask_yes (is_word_size m w) 6 _ e3 in
      let (f, e5) = ask_yes (all_below q w) 7 _ e4 in
      let (r, e6) = ask_yes (is_readable q m w) 8 _ e5 in
      let (h, n) = found_near q m w (near_message q m w) (readable_found q m w r) in
      let z = all_yes q m (near_message q m w) w a b (message_yes m _ (omega (arith, h.size))) (below_all q _ (λ i l. h.below i (omega (arith, h.size)))) d in
      ap (λ t. near_answer q m t w) (after_yes _ _ _ e) ∙ answer_yes _ _ z ∙ ap (λ t. accepted (cond t 1 0 ∷ [])) (near_true q m w _ n)

  -- and for no other message
  pub only_read_near : (s t : List ℕ) → decode_refusal q m s w ≡ 0 → near_answer q m t w ≡ accepted (1 ∷ []) → t ≡ decode_message q m s w
  unfolding decode_message
  only_read_near s t e y =
      let (positive, h, n) = yes_near q m t w y in
      sym (after_yes _ _ _ e ∙ (readable q m w t (near_found q m positive w t h n)).1)

  -- it says yes for no message where the word is doubtful
  pub doubtful_near_none : is_readable q m w ≡ false → (t : List ℕ) → near_answer q m t w ≢ accepted (1 ∷ [])
  doubtful_near_none d t y =
      let (positive, h, n) = yes_near q m t w y in
      true≢false (sym (readable q m w t (near_found q m positive w t h n)).0 ∙ d)
