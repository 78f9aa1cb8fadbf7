-- The theorem is about something: two short lists for q = 2, m = 2 with a slot of every kind, and words turned by 1. Assumes nothing.
use mathlib.Core.Path.{◌≡◌, refl, ap}
use mathlib.Core.List.{List, [], ◌∷◌}
use native.Mathlib.Omega.{arith}
use lib.ListN.{get_elem?}
use Rattle.code_theory.specs.Sum.{sum, tabulate, at}
use Rattle.code_theory.specs.Index.{bit, if_clear}
use Rattle.code_theory.specs.Modular.{sub_mod, same, differ}
use Rattle.code_theory.specs.Code.{linear, symbol_at, codeword}
use Rattle.code_theory.specs.Near.{distance}
use Rattle.code_theory.specs.Vote.{count, vote, votes, residue, residues, tally}
use Rattle.code_theory.specs.Margin.{most_other, lead, least, margin}
use Rattle.code_theory.specs.Turn.{turn, altered}
use Rattle.code_theory.specs.Nearest.{prefixed, messages, first_or, find, is_found, or_empty, is_near, nearest, is_readable, near_message, near_distance, near_margin}
use Rattle.code_theory.specs.Question.{ask, is_alphabet, is_variables, is_message_size, is_word_size, all_below, answer, after}
use Rattle.session_slot.specs.Slot.{slot_time}
use Rattle.session_sender.specs.Sending.{new_sender, sound_sender, send_refusal, send_answer, send_constant, send_session, send_word}
use Rattle.session_receiver.specs.Receiving.{new_receiver, is_below, is_missing, sound_receiver, receive_refusal, miss_refusal, receive_constant, zone_from, zone_symbol, receive_delivery, zone_values, delivery_values, receive_answer, receive_message, next_receiver, after_receive, receive_session, miss_answer, miss_session}
use Rattle.session_history_theory.specs.Calls.{slots_of, if_accepted, Send, sender_call, sender_slot, sender_slots, ReceiverCall, receive, miss, read, doubtful, missed, if_received, receiver_call, receiver_slot, receiver_slots}
use Rattle.session_history_theory.specs.Whole.{received_word, LightSlot}

-- two words are sent, with a message of two symbols refused between them
abbrev pub sends : List Send
sends =
    record { message = 1 ∷ 1 ∷ 0 ∷ []; word = 0 ∷ 0 ∷ 0 ∷ 0 ∷ [] }
    ∷ record { message = 1 ∷ 1 ∷ []; word = 0 ∷ 0 ∷ 0 ∷ 0 ∷ [] }
    ∷ record { message = 0 ∷ 0 ∷ 1 ∷ []; word = 0 ∷ 0 ∷ 0 ∷ 0 ∷ [] }
    ∷ []

pub sent_slots : sender_slots (new_sender 2 2) sends
    ≡ record { message = 1 ∷ 1 ∷ 0 ∷ []; word = 1 ∷ 0 ∷ 1 ∷ 0 ∷ [] } ∷ record { message = 0 ∷ 0 ∷ 1 ∷ []; word = 1 ∷ 1 ∷ 0 ∷ 0 ∷ [] } ∷ []
unfolding slots_of if_accepted sender_call sender_slot sound_sender send_refusal send_answer send_constant send_session send_word ask answer after is_alphabet is_variables is_message_size is_word_size all_below codeword tabulate symbol_at linear sum bit
sent_slots = refl

-- they arrive turned by 1, then a slot is missed, and the last word is doubtful
abbrev pub calls : List ReceiverCall
calls =
    receive (9 ∷ 9 ∷ 9 ∷ []) (0 ∷ 1 ∷ 0 ∷ 1 ∷ [])
    ∷ receive [] (0 ∷ 1 ∷ [])
    ∷ receive (9 ∷ 9 ∷ 9 ∷ []) (0 ∷ 0 ∷ 1 ∷ 1 ∷ [])
    ∷ miss
    ∷ receive (9 ∷ 9 ∷ 9 ∷ []) (0 ∷ 0 ∷ 0 ∷ 1 ∷ [])
    ∷ []

pub received_slots : receiver_slots (new_receiver 2 2) calls
    ≡ read (0 ∷ 1 ∷ 0 ∷ 1 ∷ []) (0 ∷ 1 ∷ 0 ∷ []) (0 ∷ 2 ∷ 0 ∷ [])
    ∷ read (0 ∷ 0 ∷ 1 ∷ 1 ∷ []) (0 ∷ 0 ∷ 1 ∷ []) (0 ∷ 0 ∷ 2 ∷ 1024 ∷ [])
    ∷ missed
    ∷ doubtful (0 ∷ 0 ∷ 0 ∷ 1 ∷ [])
    ∷ []
unfolding slots_of if_accepted if_received receiver_call receiver_slot is_below is_missing sound_receiver receive_refusal miss_refusal receive_constant zone_from zone_symbol receive_delivery zone_values delivery_values receive_answer receive_message next_receiver after_receive receive_session miss_answer miss_session slot_time ask answer after is_alphabet is_variables is_message_size is_word_size all_below prefixed messages first_or find is_found or_empty is_near nearest is_readable near_message near_distance near_margin distance differ symbol_at linear sum bit margin least lead most_other tally residues residue count vote votes if_clear same sub_mod
received_slots = refl

-- slots 0 and 1 are such words
none_altered : (altered 2 2 1 (at (1 ∷ 0 ∷ 1 ∷ 0 ∷ [])) (at (0 ∷ 1 ∷ 0 ∷ 1 ∷ [])) ≡ 0) × (altered 2 2 1 (at (1 ∷ 1 ∷ 0 ∷ 0 ∷ [])) (at (0 ∷ 0 ∷ 1 ∷ 1 ∷ [])) ≡ 0)
unfolding altered turn sum differ
none_altered = (refl, refl)

pub light_slot_0 : LightSlot 2 2 1 (sender_slots (new_sender 2 2) sends) (receiver_slots (new_receiver 2 2) calls) 0
    (record { message = 1 ∷ 1 ∷ 0 ∷ []; word = 1 ∷ 0 ∷ 1 ∷ 0 ∷ [] }) (0 ∷ 1 ∷ 0 ∷ 1 ∷ [])
unfolding received_word
light_slot_0 = record { sent = ap (λ l. get_elem? l 0) sent_slots; received = ap (λ l. received_word (get_elem? l 0)) received_slots; light = omega (arith, none_altered.0) }

pub light_slot_1 : LightSlot 2 2 1 (sender_slots (new_sender 2 2) sends) (receiver_slots (new_receiver 2 2) calls) 1
    (record { message = 0 ∷ 0 ∷ 1 ∷ []; word = 1 ∷ 1 ∷ 0 ∷ 0 ∷ [] }) (0 ∷ 0 ∷ 1 ∷ 1 ∷ [])
unfolding received_word
light_slot_1 = record { sent = ap (λ l. get_elem? l 1) sent_slots; received = ap (λ l. received_word (get_elem? l 1)) received_slots; light = omega (arith, none_altered.1) }
