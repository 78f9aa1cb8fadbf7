-- Packing and unpacking undo each other. Assumes nothing.
use Prim.Native.Nat.{ℕ, ◌+◌, ◌*◌, ◌/◌, ◌%◌, ◌≤◌, ◌<◌}
use mathlib.Core.Path.{◌≡◌, refl, ap, sym, ◌∙◌}
use mathlib.Core.List.{List, [], ◌∷◌}
use native.Mathlib.Nat.{div-div-eq-div-mul}
use native.Mathlib.Omega.{arith}
use borrow.Author.Tests.{lt-ltb, le-leb, leb-true}
use lib.Dec.{leb}
use lib.ListN.{length}
use Rattle.code_theory.specs.Sum.{at}
use Rattle.code_theory.specs.Question.{ask, is_message_size, all_below, accepted}
use Rattle.code_theory.proofs.QuestionLaws.{ask_yes, message_size, message_yes, all_below_lem, answer_yes, after_yes}
use Rattle.strap.specs.Strap.{base_four, strap_message, rate_of, zone_of, is_zone, pack_refusal, pack_answer, pack_message, unpack_refusal, unpack_answer}

-- a list of five by its elements
five : (t : List ℕ) → length t ≡ 5 → t ≡ at t 0 ∷ at t 1 ∷ at t 2 ∷ at t 3 ∷ at t 4 ∷ []
five [] e = absurd (omega arith)
five (a ∷ []) e = absurd (omega arith)
five (a ∷ b ∷ []) e = absurd (omega arith)
five (a ∷ b ∷ c ∷ []) e = absurd (omega arith)
five (a ∷ b ∷ c ∷ d ∷ []) e = absurd (omega arith)
five (a ∷ b ∷ c ∷ d ∷ f ∷ []) e = refl
five (a ∷ b ∷ c ∷ d ∷ f ∷ g ∷ t) e = absurd (omega arith)

-- what pack stores
pub stored : (rate zone : ℕ) → zone ∷ rate % 4 ∷ rate / 4 % 4 ∷ rate / 16 % 4 ∷ rate / 64 % 4 ∷ [] ≡ strap_message rate zone
unfolding strap_message base_four
stored rate zone = ap (λ x. zone ∷ x ∷ rate / 4 % 4 ∷ rate / 16 % 4 ∷ rate / 64 % 4 ∷ []) (omega arith)

-- a rate of one byte by its digits
digits : (rate : ℕ) → rate < 256 → base_four 0 rate + 4 * base_four 1 rate + 16 * base_four 2 rate + 64 * base_four 3 rate ≡ rate
unfolding base_four
digits rate h =
    let x : rate / 16 ≡ rate / 4 / 4 = sym (div-div-eq-div-mul rate 4 4) in
    let y : rate / 64 ≡ rate / 16 / 4 = sym (div-div-eq-div-mul rate 16 4) in
    let top : rate / 64 < 4 = omega arith in
    whole rate (rate / 4) (rate / 16) (rate / 64) (omega arith) (omega arith) (omega arith) (omega arith) top
  where
    whole : (rate x y z : ℕ) → rate ≡ 4 * x + rate % 4 → x ≡ 4 * y + x % 4 → y ≡ 4 * z + y % 4 → rate / 1 ≡ rate → z < 4
        → rate / 1 % 4 + 4 * (x % 4) + 16 * (y % 4) + 64 * (z % 4) ≡ rate
    whole rate x y z a b c d h = let e : z % 4 ≡ z = omega arith in omega arith

digit_below : (k rate : ℕ) → base_four k rate < 4
unfolding base_four
digit_below k rate = omega arith

-- the digits of a rate by its coefficients
record Digits (a b c d rate : ℕ) : Type 0 where
  first : base_four 0 rate ≡ a
  second : base_four 1 rate ≡ b
  third : base_four 2 rate ≡ c
  fourth : base_four 3 rate ≡ d

digits_of : (a b c d : ℕ) → a < 4 → b < 4 → c < 4 → d < 4 → Digits a b c d (a + 4 * b + 16 * c + 64 * d)
unfolding base_four
digits_of a b c d ha hb hc hd = record { first = omega arith; second = omega arith; third = omega arith; fourth = omega arith }

pub pack_0 : (t : List ℕ) (zone : ℕ) → length t ≡ 5 → zone ≤ 3 → pack_refusal t zone ≡ 0
unfolding pack_refusal ask is_zone
pack_0 t zone e h = rw (message_yes 4 t e, le-leb zone 3 h)

-- what a yes to each question says
pub packable : (t : List ℕ) (zone : ℕ) → pack_refusal t zone ≡ 0 → (length t ≡ 5) × (zone ≤ 3)
unfolding pack_refusal is_zone
packable t zone e =
    let (a, r) = ask_yes (is_message_size 4 t) 4 _ e in
    (message_size 4 t a, leb-true zone 3 (ask_yes (leb zone 3) 12 0 r).0)

pub record Unpackable (t : List ℕ) : Type 0 where
  pub size : length t ≡ 5
  pub below : (i : ℕ) → i < 5 → at t i < 4

pub unpackable : (t : List ℕ) → unpack_refusal t ≡ 0 → Unpackable t
unfolding unpack_refusal
unpackable t e =
    let (a, r) = ask_yes (is_message_size 4 t) 4 _ e in
    let (b, s) = ask_yes (all_below 4 t) 5 0 r in
    let size : length t ≡ 5 = message_size 4 t a in
    record { size = size; below = λ i h. all_below_lem 4 t b i (omega arith) }

-- the four coefficients of such a message
pub record Coefficients (t : List ℕ) : Type 0 where
  pub size : length t ≡ 5
  pub first : at t 1 < 4
  pub second : at t 2 < 4
  pub third : at t 3 < 4
  pub fourth : at t 4 < 4

pub coefficients : (t : List ℕ) → unpack_refusal t ≡ 0 → Coefficients t
coefficients t e =
    let u = unpackable t e in
    record {
      size = u.size;
      first = u.below 1 (omega arith);
      second = u.below 2 (omega arith);
      third = u.below 3 (omega arith);
      fourth = u.below 4 (omega arith);
    }

message_unpacks : (rate zone : ℕ) → zone ≤ 3 → unpack_refusal (strap_message rate zone) ≡ 0
unfolding unpack_refusal strap_message ask is_message_size all_below
message_unpacks rate zone h =
    rw (
      lt-ltb zone 4 (omega arith),
      lt-ltb (base_four 0 rate) 4 (digit_below 0 rate),
      lt-ltb (base_four 1 rate) 4 (digit_below 1 rate),
      lt-ltb (base_four 2 rate) 4 (digit_below 2 rate),
      lt-ltb (base_four 3 rate) 4 (digit_below 3 rate),
    )

-- unpacking what was packed gives the rate and the zone back
pub unpack_packed : (message : List ℕ) (rate zone : ℕ) → rate < 256 → pack_refusal message zone ≡ 0
    → unpack_answer (pack_message message rate zone) ≡ accepted (rate ∷ zone ∷ [])
unfolding pack_message unpack_answer rate_of zone_of strap_message
unpack_packed message rate zone h e =
    ap unpack_answer (after_yes _ _ _ e)
    ∙ answer_yes (unpack_refusal (strap_message rate zone)) _ (message_unpacks rate zone (packable message zone e).1)
    ∙ ap (λ r. accepted (r ∷ zone ∷ [])) (digits rate h)

message_of_lem : (t : List ℕ) → unpack_refusal t ≡ 0 → strap_message (rate_of t) (zone_of t) ≡ t
unfolding rate_of zone_of strap_message
message_of_lem t e =
    let a = coefficients t e in
    let d = digits_of (at t 1) (at t 2) (at t 3) (at t 4) a.first a.second a.third a.fourth in
    rw (d.first, d.second, d.third, d.fourth) (sym (five t a.size))

zone_below : (t : List ℕ) → Unpackable t → zone_of t ≤ 3
unfolding zone_of
zone_below t u = omega (arith, u.below 0 (omega arith))

-- packing what was unpacked is accepted and gives the message back
pub pack_unpacked : (message target : List ℕ) → unpack_refusal message ≡ 0 → length target ≡ 5
    → (pack_answer target (zone_of message) ≡ accepted []) × (pack_message target (rate_of message) (zone_of message) ≡ message)
unfolding pack_answer pack_message
pack_unpacked message target e size =
    let u = unpackable message e in
    let n = pack_0 target (zone_of message) size (zone_below message u) in
    (answer_yes (pack_refusal target (zone_of message)) [] n, after_yes _ _ _ n ∙ message_of_lem message e)
