-- The theorems are about something: four sends for q = 2 and m = 3 as two groups of two words, turned by 1, with a run of two altered
-- symbols in the first group and a missed slot in the second. Assumes nothing.
use Prim.Native.Nat.{ℕ, zero, suc, ◌*◌, ◌+◌, ◌<◌}
use mathlib.Core.Path.{◌≡◌, refl, ap, sym, subst, ◌∙◌}
use mathlib.Core.List.{List, [], ◌∷◌}
use mathlib.Core.Option.{some}
use native.Mathlib.Omega.{arith}
use lib.ListN.{length, get_elem?, replicate}
use Rattle.code_theory.specs.Sum.{sum, every, tabulate, at}
use Rattle.code_theory.specs.Index.{bit, if_clear}
use Rattle.code_theory.specs.Modular.{sub_mod, same, differ}
use Rattle.code_theory.specs.Code.{linear, symbol_at, codeword}
use Rattle.code_theory.specs.Near.{distance}
use Rattle.code_theory.specs.Vote.{count, vote, votes, residue, residues, tally}
use Rattle.code_theory.specs.Margin.{most_other, lead, least, margin}
use Rattle.code_theory.specs.Turn.{turn, altered}
use Rattle.code_theory.specs.Nearest.{prefixed, messages, first_or, find, is_found, or_empty, is_near, nearest, is_readable, near_message, near_distance, near_margin}
use Rattle.code_theory.specs.Question.{ask, is_alphabet, is_variables, is_message_size, is_word_size, all_below, answer, after}
use Rattle.interleave_theory.specs.Place.{across, transposed}
use Rattle.interleave_theory.specs.Group.{is_group, is_group_size, group_refusal, rearrange_target, put_back_target}
use Rattle.interleave_burst_theory.specs.Burst.{joined, word_of, OneRun}
use Rattle.interleave_burst_theory.proofs.RunLaws.{run_tested}
use Rattle.session_slot.specs.Slot.{slot_time}
use Rattle.session_sender.specs.Sending.{new_sender, sound_sender, send_refusal, send_answer, send_constant, send_session, send_word}
use Rattle.session_sender.proofs.SoundLaws.{sender_opens}
use Rattle.session_receiver.specs.Receiving.{new_receiver, is_below, is_missing, sound_receiver, receive_refusal, miss_refusal, receive_constant, zone_from, zone_symbol, receive_delivery, zone_values, delivery_values, receive_answer, receive_message, next_receiver, after_receive, receive_session, miss_answer, miss_session}
use Rattle.session_history_theory.specs.Calls.{slots_of, if_accepted, Send, SenderSlot, sender_call, sender_slot, sender_slots, ReceiverCall, receive, miss, ReceiverSlot, read, missed, if_received, receiver_call, receiver_slot, receiver_slots}
use Rattle.session_history_theory.specs.Whole.{received_word}
use Rattle.session_group_theory.specs.Grouped.{group_at, Passage, group_sent, group_returned, returned_word, WholeGroup, BurstPassage, GroupedSlot}
use Rattle.session_group_theory.proofs.Theorem.{burst_slots}

-- after each of the first three sends one is refused: a short message, a symbol that is not below q, a short word slice
abbrev pub sends : List Send
sends =
    record { message = 1 ∷ 1 ∷ 0 ∷ 0 ∷ []; word = replicate 8 9 }
    ∷ record { message = 1 ∷ 1 ∷ []; word = replicate 8 9 }
    ∷ record { message = 1 ∷ 0 ∷ 1 ∷ 1 ∷ []; word = replicate 8 9 }
    ∷ record { message = 0 ∷ 0 ∷ 2 ∷ 0 ∷ []; word = replicate 8 9 }
    ∷ record { message = 0 ∷ 0 ∷ 0 ∷ 1 ∷ []; word = replicate 8 9 }
    ∷ record { message = 1 ∷ 1 ∷ 1 ∷ 1 ∷ []; word = replicate 7 9 }
    ∷ record { message = 1 ∷ 1 ∷ 1 ∷ 1 ∷ []; word = replicate 8 9 }
    ∷ []

abbrev pub strap : List SenderSlot
strap = sender_slots (new_sender 2 3) sends

abbrev pub first : SenderSlot
first = record { message = 1 ∷ 1 ∷ 0 ∷ 0 ∷ []; word = 1 ∷ 0 ∷ 1 ∷ 0 ∷ 1 ∷ 0 ∷ 1 ∷ 0 ∷ [] }

abbrev pub second : SenderSlot
second = record { message = 1 ∷ 0 ∷ 1 ∷ 1 ∷ []; word = 0 ∷ 0 ∷ 1 ∷ 1 ∷ 1 ∷ 1 ∷ 0 ∷ 0 ∷ [] }

abbrev pub third : SenderSlot
third = record { message = 0 ∷ 0 ∷ 0 ∷ 1 ∷ []; word = 0 ∷ 0 ∷ 0 ∷ 0 ∷ 1 ∷ 1 ∷ 1 ∷ 1 ∷ [] }

abbrev pub fourth : SenderSlot
fourth = record { message = 1 ∷ 1 ∷ 1 ∷ 1 ∷ []; word = 1 ∷ 0 ∷ 0 ∷ 1 ∷ 0 ∷ 1 ∷ 1 ∷ 0 ∷ [] }

pub sent_slots : strap ≡ first ∷ second ∷ third ∷ fourth ∷ []
unfolding slots_of if_accepted sender_call sender_slot sound_sender send_refusal send_answer send_constant send_session send_word ask answer after is_alphabet is_variables is_message_size is_word_size all_below codeword tabulate symbol_at linear sum bit
sent_slots = refl

-- each group arrives turned by 1, and altered in places 3 and 4 of group 0 and in place 15 of group 1
unfoldable pub passages : ℕ → Passage
passages zero = record {
  outgoing = replicate 16 9;
  arrived = 0 ∷ 1 ∷ 1 ∷ 0 ∷ 1 ∷ 0 ∷ 1 ∷ 0 ∷ 0 ∷ 0 ∷ 1 ∷ 0 ∷ 0 ∷ 1 ∷ 1 ∷ 1 ∷ [];
  incoming = replicate 16 9;
}
passages (suc g) = record {
  outgoing = replicate 16 9;
  arrived = 1 ∷ 0 ∷ 1 ∷ 1 ∷ 1 ∷ 1 ∷ 1 ∷ 0 ∷ 0 ∷ 1 ∷ 0 ∷ 0 ∷ 0 ∷ 0 ∷ 0 ∷ 0 ∷ [];
  incoming = replicate 16 9;
}

-- the launch receives the words put back, the first of group 1 excepted; two receives are refused
abbrev pub calls : List ReceiverCall
calls =
    receive (9 ∷ 9 ∷ 9 ∷ 9 ∷ []) (0 ∷ 1 ∷ 1 ∷ 1 ∷ 0 ∷ 1 ∷ 0 ∷ 1 ∷ [])
    ∷ receive [] (1 ∷ 0 ∷ 0 ∷ 0 ∷ 0 ∷ 0 ∷ 1 ∷ 1 ∷ [])
    ∷ receive (9 ∷ 9 ∷ 9 ∷ 9 ∷ []) (1 ∷ 0 ∷ 0 ∷ 0 ∷ 0 ∷ 0 ∷ 1 ∷ 1 ∷ [])
    ∷ miss
    ∷ receive (9 ∷ 9 ∷ 9 ∷ 9 ∷ []) (2 ∷ 1 ∷ 1 ∷ 0 ∷ 1 ∷ 0 ∷ 0 ∷ 0 ∷ [])
    ∷ receive (9 ∷ 9 ∷ 9 ∷ 9 ∷ []) (0 ∷ 1 ∷ 1 ∷ 0 ∷ 1 ∷ 0 ∷ 0 ∷ 0 ∷ [])
    ∷ []

abbrev pub launch : List ReceiverSlot
launch = receiver_slots (new_receiver 2 3) calls

pub received_slots : launch
    ≡ read (0 ∷ 1 ∷ 1 ∷ 1 ∷ 0 ∷ 1 ∷ 0 ∷ 1 ∷ []) (0 ∷ 1 ∷ 0 ∷ 0 ∷ []) (1 ∷ 2 ∷ 0 ∷ [])
    ∷ read (1 ∷ 0 ∷ 0 ∷ 0 ∷ 0 ∷ 0 ∷ 1 ∷ 1 ∷ []) (1 ∷ 0 ∷ 1 ∷ 1 ∷ []) (1 ∷ 1 ∷ 2 ∷ 1024 ∷ [])
    ∷ missed
    ∷ read (0 ∷ 1 ∷ 1 ∷ 0 ∷ 1 ∷ 0 ∷ 0 ∷ 0 ∷ []) (0 ∷ 1 ∷ 1 ∷ 1 ∷ []) (1 ∷ 2 ∷ 3072 ∷ [])
    ∷ []
unfolding slots_of if_accepted if_received receiver_call receiver_slot is_below is_missing sound_receiver receive_refusal miss_refusal receive_constant zone_from zone_symbol receive_delivery zone_values delivery_values receive_answer receive_message next_receiver after_receive receive_session miss_answer miss_session slot_time ask answer after is_alphabet is_variables is_message_size is_word_size all_below prefixed messages first_or find is_found or_empty is_near nearest is_readable near_message near_distance near_margin distance differ symbol_at linear sum bit margin least lead most_other tally residues residue count vote votes if_clear same sub_mod
received_slots = refl

pub whole_0 : WholeGroup 2 3 2 strap (passages 0) 0
unfolding passages group_at joined group_refusal ask is_alphabet is_variables is_group is_group_size all_below
whole_0 = record {
  slots = omega (arith, ap length sent_slots);
  rearranges = ap (λ l. group_refusal 2 3 2 (group_at 2 l 0) (replicate 16 9)) sent_slots;
  puts_back = refl;
}

pub whole_1 : WholeGroup 2 3 2 strap (passages 1) 1
unfolding passages group_at joined group_refusal ask is_alphabet is_variables is_group is_group_size all_below
whole_1 = record {
  slots = omega (arith, ap length sent_slots);
  rearranges = ap (λ l. group_refusal 2 3 2 (group_at 2 l 1) (replicate 16 9)) sent_slots;
  puts_back = refl;
}

-- group 0 in the air, before the turn and the run
abbrev pub group : List ℕ
group = 1 ∷ 0 ∷ 0 ∷ 0 ∷ 1 ∷ 1 ∷ 0 ∷ 1 ∷ 1 ∷ 1 ∷ 0 ∷ 1 ∷ 1 ∷ 0 ∷ 0 ∷ 0 ∷ []

sent_group_lem : group_sent 2 3 2 (group_at 2 strap 0) (passages 0) ≡ group
unfolding passages group_sent rearrange_target after group_at joined group_refusal ask is_alphabet is_variables is_group is_group_size all_below transposed across tabulate
sent_group_lem = ap (λ l. group_sent 2 3 2 (group_at 2 l 0) (passages 0)) sent_slots

pub burst : BurstPassage 2 3 1 2 3 2 strap (passages 0) 0
unfolding passages every turn
burst = record {
  whole = whole_0;
  short = omega arith;
  run =
      subst (λ l. OneRun 16 3 2 (turn 2 1 (at l)) (at (passages 0).arrived)) (sym sent_group_lem)
      (run_tested 16 3 2 (turn 2 1 (at group)) (at (passages 0).arrived) refl refl);
}

-- the words that the launch has of the groups
returned_words : (returned_word 2 3 2 (passages 0) 0 ≡ 0 ∷ 1 ∷ 1 ∷ 1 ∷ 0 ∷ 1 ∷ 0 ∷ 1 ∷ [])
    × (returned_word 2 3 2 (passages 0) 1 ≡ 1 ∷ 0 ∷ 0 ∷ 0 ∷ 0 ∷ 0 ∷ 1 ∷ 1 ∷ [])
    × (returned_word 2 3 2 (passages 1) 1 ≡ 0 ∷ 1 ∷ 1 ∷ 0 ∷ 1 ∷ 0 ∷ 0 ∷ 0 ∷ [])
unfolding passages returned_word group_returned word_of put_back_target after group_refusal ask is_alphabet is_variables is_group is_group_size all_below transposed across tabulate
returned_words = (refl, refl, refl)

-- the words of group 0, by the theorem about one run
word_of_0 : (w : ℕ) (x : SenderSlot) → w < 2 → get_elem? strap (2 * 0 + w) ≡ some x
    → received_word (get_elem? launch (2 * 0 + w)) ≡ some (returned_word 2 3 2 (passages 0) w) → GroupedSlot 2 3 1 2 strap launch (passages 0) 0 w x
unfolding is_alphabet is_variables
word_of_0 = burst_slots 2 3 _ (sender_opens 2 3 refl refl) 1 2 sends launch (passages 0) 0 3 2 burst

pub word_0_0 : GroupedSlot 2 3 1 2 strap launch (passages 0) 0 0 first
unfolding received_word
word_0_0 = word_of_0 0 _ (omega arith) (ap (λ l. get_elem? l 0) sent_slots) (ap (λ l. received_word (get_elem? l 0)) received_slots ∙ ap some (sym returned_words.0))

pub word_0_1 : GroupedSlot 2 3 1 2 strap launch (passages 0) 0 1 second
unfolding received_word
word_0_1 = word_of_0 1 _ (omega arith) (ap (λ l. get_elem? l 1) sent_slots) (ap (λ l. received_word (get_elem? l 1)) received_slots ∙ ap some (sym returned_words.1))

-- of group 1, the slot of word 0 was missed
pub word_1_0 : get_elem? launch (2 * 1 + 0) ≡ some missed
word_1_0 = ap (λ l. get_elem? l 2) received_slots

-- and in word 1 one symbol is altered
one_altered : altered 2 3 1 (at fourth.word) (at (returned_word 2 3 2 (passages 1) 1)) ≡ 1
unfolding altered turn sum differ
one_altered = ap (λ y. altered 2 3 1 (at fourth.word) (at y)) returned_words.2

pub word_1_1 : GroupedSlot 2 3 1 2 strap launch (passages 1) 1 1 fourth
unfolding received_word
word_1_1 = record {
  whole = whole_1;
  word = omega arith;
  slot = ap (λ l. get_elem? l 3) sent_slots;
  received = ap (λ l. received_word (get_elem? l 3)) received_slots ∙ ap some (sym returned_words.2);
  light = omega (arith, one_altered);
}
