-- What pack and unpack answer and leave, for every input (docs/REQUIREMENTS.md: strap packing, q = 4, m = 4).
use Rattle.std.specs.Prelude.{ℕ, ◌+◌, ◌*◌, ◌/◌, ◌%◌, ◌^◌, Bool, List, [], ◌∷◌, leb}
use Rattle.code_theory.specs.Sum.{at}
use Rattle.code_theory.specs.Question.{ask, is_message_size, all_below, Answer, answer, after}
use Rattle.strap.specs.declared.Report.{Report}

-- digit k of the rate in base 4, digit 0 the lowest: the coefficient a_k
unfoldable pub base_four : ℕ → ℕ → ℕ
base_four k rate = rate / 4 ^ k % 4

-- the message of a rate and a zone: the zone symbol, then the coefficients
unfoldable pub strap_message : ℕ → ℕ → List ℕ
strap_message rate zone = zone ∷ base_four 0 rate ∷ base_four 1 rate ∷ base_four 2 rate ∷ base_four 3 rate ∷ []

-- the rate that a message says: a_0 + 4 a_1 + 16 a_2 + 64 a_3, with a_k at place k + 1
unfoldable pub rate_of : List ℕ → ℕ
rate_of message = at message 1 + 4 * at message 2 + 16 * at message 3 + 64 * at message 4

-- the zone that it says: place 0
unfoldable pub zone_of : List ℕ → ℕ
zone_of message = at message 0

-- 13: is the zone at most 3?
unfoldable pub is_zone : ℕ → Bool
is_zone zone = leb zone 3

-- Pack asks 5, 13
unfoldable pub pack_refusal : List ℕ → ℕ → ℕ
pack_refusal message zone = ask (is_message_size 4 message) 5 (ask (is_zone zone) 13 0)

-- Pack answers no values
unfoldable pub pack_answer : List ℕ → ℕ → Answer
pack_answer message zone = answer (pack_refusal message zone) []

-- the message slice after Pack
unfoldable pub pack_message : List ℕ → ℕ → ℕ → List ℕ
pack_message message rate zone = after (pack_refusal message zone) (strap_message rate zone) message

-- Unpack asks 5, 6
unfoldable pub unpack_refusal : List ℕ → ℕ
unpack_refusal message = ask (is_message_size 4 message) 5 (ask (all_below 4 message) 6 0)

-- Unpack answers rate and zone
unfoldable pub unpack_answer : List ℕ → Answer
unpack_answer message = answer (unpack_refusal message) (rate_of message ∷ zone_of message ∷ [])

-- the values of a report: rate and zone
unfoldable pub report_values : Report → List ℕ
report_values report = report.rate ∷ report.zone ∷ []
