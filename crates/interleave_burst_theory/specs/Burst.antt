-- ONE RUN OF DAMAGE to a rearranged group (docs/REQUIREMENTS.md: Bursts), sentence by sentence, for all q, m and W together.
use Rattle.std.specs.Prelude.{ℕ, suc, ◌+◌, ◌*◌, ◌-◌, ◌/◌, ◌^◌, ◌≤◌, ◌<◌, ◌≡◌, List, [], ◌∷◌, ◌++◌, map, length, take, drop}
use Rattle.std.proofs.Math.Option.{some}
use Rattle.std.proofs.Math.ListN.{get_elem?}
use Rattle.code_theory.specs.Sum.{sum, at}
use Rattle.code_theory.specs.Modular.{differ}
use Rattle.code_theory.specs.Code.{codeword, Symbols}
use Rattle.code_theory.specs.Nearest.{nearest, near_distance, near_margin}
use Rattle.code_theory.specs.Question.{accepted}
use Rattle.codec.specs.Codec.{decode_answer, decode_message}
use Rattle.interleave_theory.specs.Place.{rearranged, put_back}
use Rattle.interleave_theory.specs.Group.{group_refusal, rearrange_target, put_back_target}

-- words, one behind the other
unfoldable pub joined : List (List ℕ) → List ℕ
joined [] = []
joined (word ∷ words) = word ++ joined words

-- word w of a group of words of n symbols
unfoldable pub word_of : ℕ → List ℕ → ℕ → List ℕ
word_of n x w = take n (drop (w * n) x)

-- Of `size` adjacent places, those outside the run of `len` places from `start` on arrived as they were sent.
pub record OneRun (size start len : ℕ) (sent arrived : ℕ → ℕ) : Type 0 where
  pub before : (p : ℕ) → p < size → p < start → arrived p ≡ sent p
  pub behind : (p : ℕ) → p < size → start + len ≤ p → arrived p ≡ sent p

-- in how many places of word w, each at s × W + w of the rearranged group, what arrived differs from what was sent
unfoldable pub altered_in : (n count w : ℕ) (sent arrived : ℕ → ℕ) → ℕ
altered_in n count w sent arrived = sum n (λ s. differ (sent (s * count + w)) (arrived (s * count + w)))

-- the words of the messages, and the group that they make, rearranged
unfoldable pub words_of : ℕ → ℕ → List (List ℕ) → List ℕ
words_of q m messages = joined (map (codeword q m) messages)

unfoldable pub sent_group : ℕ → ℕ → ℕ → List (List ℕ) → List ℕ
sent_group q m count messages = rearranged count (2 ^ m) (words_of q m messages)

-- W messages, and one run of at most W × (n/4 − 1) adjacent symbols of their rearranged group that is altered in any manner, and nothing
-- else
pub record Burst (q m count start len : ℕ) (messages : List (List ℕ)) (arrived : List ℕ) : Type 0 where
  pub size : length messages ≡ count
  pub symbols : (w : ℕ) (message : List ℕ) → get_elem? messages w ≡ some message → Symbols q (suc m) message
  pub short : len ≤ count * (2 ^ m / 4 - 1)
  pub run : OneRun (count * 2 ^ m) start len (at (sent_group q m count messages)) (at arrived)

-- What then holds.
pub record BurstRead (q m count len : ℕ) (messages : List (List ℕ)) (arrived : List ℕ) : Type 0 where
  -- Every word of the group put back reads as its message;
  pub reads : (w : ℕ) (message : List ℕ) → get_elem? messages w ≡ some message
      → nearest q m (word_of (2 ^ m) (put_back count (2 ^ m) arrived) w) ≡ some message
  -- its wrong is the count of its altered places.
  pub wrong : (w : ℕ) (message : List ℕ) → get_elem? messages w ≡ some message
      → near_distance q m (word_of (2 ^ m) (put_back count (2 ^ m) arrived) w) ≡ altered_in (2 ^ m) count w (at (sent_group q m count messages)) (at arrived)
  -- At m = 2 the run is empty,
  pub none : m ≡ 2 → len ≡ 0
  -- and nothing is altered.
  pub empty : m ≡ 2 → (p : ℕ) → p < count * 2 ^ m → at arrived p ≡ at (sent_group q m count messages) p
  -- So it is with the calls. Rearrange accepts the words that Write leaves, and leaves the group;
  pub rearrange : (target : List ℕ) → length target ≡ count * 2 ^ m
      → (group_refusal q m count (words_of q m messages) target ≡ 0) × (rearrange_target q m count (words_of q m messages) target ≡ sent_group q m count messages)
  -- and what an accepted Put back leaves of what arrived, Read accepts word by word, with this wrong, and leaves the messages.
  pub read : (target : List ℕ) → group_refusal q m count arrived target ≡ 0
      → (w : ℕ) (message : List ℕ) → get_elem? messages w ≡ some message → (buffer : List ℕ) → length buffer ≡ suc m
      → let word = word_of (2 ^ m) (put_back_target q m count arrived target) w in
      (decode_answer q m buffer word ≡ accepted (altered_in (2 ^ m) count w (at (sent_group q m count messages)) (at arrived) ∷ near_margin q m word ∷ []))
      × (decode_message q m buffer word ≡ message)
