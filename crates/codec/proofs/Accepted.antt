-- What it says that the questions are answered yes. Assumes nothing.
use Prim.Native.Nat.{ℕ, suc, ◌^◌, ◌≤◌, ◌<◌}
use mathlib.Core.Path.{◌≡◌, refl, sym, ◌∙◌}
use mathlib.Core.Logic.{◌≢◌}
use mathlib.Core.Bool.{true}
use mathlib.Core.List.{List}
use native.Mathlib.Decide.{ℕ_discrete}
use native.Mathlib.Omega.{arith}
use lib.ListN.{length}
use Rattle.code_theory.specs.Nearest.{is_readable}
use Rattle.code_theory.specs.Question.{ask, is_alphabet, is_variables, is_message_size, is_word_size, all_below}
use Rattle.code_theory.proofs.QuestionLaws.{ask_yes, ask_never, ask_later, alphabet, alphabet_bounds, variables_bounds, message_size, word_size, symbols}
use Rattle.code_theory.specs.Internal.{WellFormed}
use Rattle.codec.specs.Codec.{decode_refusal}
use Rattle.codec.specs.Internal.{size_refusal, word_refusal}

-- q, m and the message slice pass the questions that Read asks first
pub record Sized (q m : ℕ) (s : List ℕ) : Type 0 where
  pub alphabet : is_alphabet q ≡ true
  pub some : 0 < q
  pub few : q ≤ 8
  pub low : 2 ≤ m
  pub high : m ≤ 8
  pub message : length s ≡ suc m

pub sized : (q m : ℕ) (s : List ℕ) → size_refusal q m s ≡ 0 → Sized q m s
unfolding size_refusal
sized q m s e =
    let (a, f) = ask_yes (is_alphabet q) 0 _ e in
    let (b, g) = ask_yes (is_variables m) 1 _ f in
    let (c, h) = ask_yes (is_message_size m s) 4 _ g in
    let (two, eight) = alphabet_bounds q (alphabet q a) in
    let (low, high) = variables_bounds m b in
    record { alphabet = a; some = omega arith; few = eight; low = low; high = high; message = message_size m s c }

-- the questions after those that are asked in a function of their own
module _ (q m : ℕ) (s w : List ℕ) where
  pub word_never : size_refusal q m s ≢ 0 → word_refusal q m s w ≡ size_refusal q m s
  unfolding size_refusal word_refusal
  word_never = ask_never _ _ _ _ (ask_never _ _ _ _ (ask_never _ _ _ _ (λ d. absurd (d refl))))

  pub word_later : size_refusal q m s ≡ 0 → word_refusal q m s w ≡ ask (is_word_size m w) 7 (ask (all_below q w) 8 0)
  unfolding size_refusal word_refusal
  word_later = ask_later _ 0 _ _ _ (ask_later _ 1 _ _ _ (ask_later _ 4 _ _ _ (λ z. refl)))

  pub decode_never : word_refusal q m s w ≢ 0 → decode_refusal q m s w ≡ word_refusal q m s w
  unfolding word_refusal decode_refusal
  decode_never = ask_never _ _ _ _ (ask_never _ _ _ _ (ask_never _ _ _ _ (ask_never _ _ _ _ (ask_never _ _ _ _ (λ d. absurd (d refl))))))

  pub decode_later : word_refusal q m s w ≡ 0 → decode_refusal q m s w ≡ ask (is_readable q m w) 9 0
  unfolding word_refusal decode_refusal
  decode_later = ask_later _ 0 _ _ _ (ask_later _ 1 _ _ _ (ask_later _ 4 _ _ _ (ask_later _ 6 _ _ _ (ask_later _ 7 _ _ _ (λ z. refl)))))

-- a word that is read passes the questions before 9
pub decode_word : (q m : ℕ) (s w : List ℕ) → decode_refusal q m s w ≡ 0 → word_refusal q m s w ≡ 0
decode_word q m s w e = go (ℕ_discrete (word_refusal q m s w) 0)
  where
    go : Dec (word_refusal q m s w ≡ 0) → word_refusal q m s w ≡ 0
    go (yes z) = z
    go (no d) = sym (decode_never q m s w d) ∙ e

-- a word that Read goes on to read, with its message slice
pub record Readable (q m : ℕ) (s w : List ℕ) : Type 0 where
  pub sized : Sized q m s
  pub well_formed : WellFormed q m w

pub readable : (q m : ℕ) (s w : List ℕ) → word_refusal q m s w ≡ 0 → Readable q m s w
readable q m s w e = go (ℕ_discrete (size_refusal q m s) 0)
  where
    go : Dec (size_refusal q m s ≡ 0) → Readable q m s w
    go (no d) = absurd (d (sym (word_never q m s w d) ∙ e))
    go (yes z) =
        let (a, f) = ask_yes (is_word_size m w) 6 _ (sym (word_later q m s w z) ∙ e) in
        let (b, g) = ask_yes (all_below q w) 7 _ f in
        let y = sized q m s z in
        record { sized = y; well_formed = record { alphabet = y.alphabet; low = y.low; high = y.high; symbols = symbols q (2 ^ m) w (word_size m w a) b } }
