-- DEMAND 3 IN GROUPS (docs/REQUIREMENTS.md: Whole sessions in groups): the lists of calls are those of Whole sessions, and the words of the
-- strap travel in whole groups of W: word w of group g is that of slot W × g + w.
use Rattle.std.specs.Prelude.{ℕ, ◌+◌, ◌*◌, ◌-◌, ◌/◌, ◌^◌, ◌≤◌, ◌<◌, ◌≡◌, true, List, map, length, take, drop}
use Rattle.std.proofs.Math.Option.{some}
use Rattle.std.proofs.Math.ListN.{get_elem?}
use Rattle.code_theory.specs.Sum.{at}
use Rattle.code_theory.specs.Turn.{turn, altered}
use Rattle.code_theory.specs.Question.{all_below}
use Rattle.interleave_theory.specs.Group.{group_refusal, rearrange_target, put_back_target}
use Rattle.interleave_burst_theory.specs.Burst.{joined, word_of, OneRun, altered_in}
use Rattle.session_sender.specs.declared.Sender.{Sender}
use Rattle.session_receiver.specs.declared.Receiver.{Receiver}
use Rattle.session_history_theory.specs.Calls.{SenderSlot, ReceiverSlot}
use Rattle.session_history_theory.specs.Whole.{received_word, LightSlot, WholeSessions}

-- group g: the words of the W slots from W × g on, one behind the other
unfoldable pub group_at : ℕ → List SenderSlot → ℕ → List ℕ
group_at count strap g = joined (map (λ slot. slot.word) (take count (drop (count * g) strap)))

-- a group on its way: the target slice that the strap lends to Rearrange, what arrives, and the target slice that the launch lends to Put
-- back
pub record Passage : Type 0 where
  pub outgoing : List ℕ
  pub arrived : List ℕ
  pub incoming : List ℕ

-- what the strap sends of a group, what the launch has of it, and word w of that
unfoldable pub group_sent : ℕ → ℕ → ℕ → List ℕ → Passage → List ℕ
group_sent q m count group passage = rearrange_target q m count group passage.outgoing

unfoldable pub group_returned : ℕ → ℕ → ℕ → Passage → List ℕ
group_returned q m count passage = put_back_target q m count passage.arrived passage.incoming

unfoldable pub returned_word : ℕ → ℕ → ℕ → Passage → ℕ → List ℕ
returned_word q m count passage w = word_of (2 ^ m) (group_returned q m count passage) w

-- Group g is whole: the strap has all its slots, and both calls about it are accepted.
pub record WholeGroup (q m count : ℕ) (strap : List SenderSlot) (passage : Passage) (g : ℕ) : Type 0 where
  pub slots : count * g + count ≤ length strap
  pub rearranges : group_refusal q m count (group_at count strap g) passage.outgoing ≡ 0
  pub puts_back : group_refusal q m count passage.arrived passage.incoming ≡ 0

-- What arrives of the whole group g is its symbols in the air, each plus t modulo q, but for one run of at most W × (n/4 − 1) adjacent
-- ones.
pub record BurstPassage (q m t count start len : ℕ) (strap : List SenderSlot) (passage : Passage) (g : ℕ) : Type 0 where
  pub whole : WholeGroup q m count strap passage g
  pub short : len ≤ count * (2 ^ m / 4 - 1)
  pub run : OneRun (count * 2 ^ m) start len (turn q t (at (group_sent q m count (group_at count strap g) passage))) (at passage.arrived)

-- Word w of the whole group g was sent as the slot x, and its slot of the launch received that word of the group put back, in which fewer
-- than a quarter of the symbols are altered.
pub record GroupedSlot (q m t count : ℕ) (strap : List SenderSlot) (launch : List ReceiverSlot) (passage : Passage) (g w : ℕ) (x : SenderSlot) : Type 0 where
  pub whole : WholeGroup q m count strap passage g
  pub word : w < count
  pub slot : get_elem? strap (count * g + w) ≡ some x
  pub received : received_word (get_elem? launch (count * g + w)) ≡ some (returned_word q m count passage w)
  pub light : 4 * altered q m t (at x.word) (at (returned_word q m count passage w)) < 2 ^ m

-- The slots of the strap and of the launch, under the turn t, with a passage for each group.
pub record GroupedSessions (q m t count : ℕ) (strap : List SenderSlot) (launch : List ReceiverSlot) (sender : Sender) (receiver : Receiver) (passages : ℕ → Passage) : Type 0 where
  -- All of Whole sessions holds of the two lists.
  pub whole : WholeSessions q m t strap launch sender receiver
  -- Such a word of a group is such a word there, in slot W × g + w: what is said of those holds of it.
  pub light : (g w : ℕ) (x : SenderSlot) → GroupedSlot q m t count strap launch (passages g) g w x
      → LightSlot q m t strap launch (count * g + w) x (returned_word q m count (passages g) w)
  -- The count of altered symbols of a word put back is that of its places in the air where what arrived differs from the symbol sent there
  -- plus t modulo q.
  pub counted : (g w : ℕ) (x : SenderSlot) → WholeGroup q m count strap (passages g) g → w < count → get_elem? strap (count * g + w) ≡ some x
      → altered q m t (at x.word) (at (returned_word q m count (passages g) w))
      ≡ altered_in (2 ^ m) count w (turn q t (at (group_sent q m count (group_at count strap g) (passages g)))) (at (passages g).arrived)
  -- Rearrange refuses no group of which the strap has all W slots, where the target slice has its length;
  pub rearranges : (g : ℕ) → count * g + count ≤ length strap → length (passages g).outgoing ≡ count * 2 ^ m
      → group_refusal q m count (group_at count strap g) (passages g).outgoing ≡ 0
  -- and Put back refuses no W × n symbols below q that arrive, where the target slice has their length.
  pub puts_back : (g : ℕ) → length (passages g).arrived ≡ count * 2 ^ m → all_below q (passages g).arrived ≡ true → length (passages g).incoming ≡ count * 2 ^ m
      → group_refusal q m count (passages g).arrived (passages g).incoming ≡ 0
