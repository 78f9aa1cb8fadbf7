-- THE TWELVE CASES hold, by computation. Assumes nothing.
use mathlib.Core.Path.{refl}
use Rattle.code_theory.specs.Sum.{sum, tabulate}
use Rattle.code_theory.specs.Index.{bit, if_clear}
use Rattle.code_theory.specs.Modular.{sub_mod, same, differ}
use Rattle.code_theory.specs.Code.{linear, symbol_at, codeword}
use Rattle.code_theory.specs.Near.{distance}
use Rattle.code_theory.specs.Vote.{count, vote, votes, residue, residues, tally}
use Rattle.code_theory.specs.Margin.{most_other, lead, least, margin}
use Rattle.code_theory.specs.Nearest.{prefixed, messages, first_or, find, is_found, or_empty, is_near, nearest, is_readable, near_message, near_distance, near_margin}
use Rattle.code_theory.specs.Question.{ask, is_alphabet, is_variables, is_message_size, is_word_size, all_below, answer, after}
use Rattle.codec.specs.Codec.{encode_refusal, encode_answer, encode_word, decode_refusal, decode_answer, decode_message}
use Rattle.session_slot.specs.Slot.{slot_time}
use Rattle.session_sender.specs.Sending.{sound_sender, send_refusal, send_answer, send_constant, send_session}
use Rattle.session_receiver.specs.Receiving.{is_below, is_missing, sound_receiver, receive_refusal, miss_refusal, receive_constant, zone_from, receive_delivery, zone_values, delivery_values, receive_answer, next_receiver, after_receive, receive_session, miss_answer, miss_session}
use Rattle.strap.specs.Strap.{base_four, strap_message, is_zone, pack_refusal, pack_answer, pack_message}
use Rattle.soft_theory.specs.Decision.{magnitude, is_decisive, decide_by, decide}
use Rattle.example_theory.specs.Case.{votes_in_order, Holds, AllHold}
use Rattle.example_theory.specs.Examples.{examples}

pub examples_hold : AllHold examples
unfolding sum tabulate bit if_clear sub_mod same differ linear symbol_at codeword distance count vote votes residue residues tally most_other lead least margin prefixed messages first_or find is_found or_empty is_near nearest is_readable near_message near_distance near_margin ask is_alphabet is_variables is_message_size is_word_size all_below answer after encode_refusal encode_answer encode_word decode_refusal decode_answer decode_message slot_time sound_sender send_refusal send_answer send_constant send_session is_below is_missing sound_receiver receive_refusal miss_refusal receive_constant zone_from receive_delivery zone_values delivery_values receive_answer next_receiver after_receive receive_session miss_answer miss_session base_four strap_message is_zone pack_refusal pack_answer pack_message magnitude is_decisive decide_by decide votes_in_order Holds AllHold
examples_hold = ((refl, refl), ((refl, refl), (refl, ((refl, refl), ((refl, refl), (((refl, refl), (refl, refl)), ((refl, refl), ((refl, refl), ((refl, refl), ((refl, refl), ((refl, (refl, refl)), ((((refl, refl), (refl, refl)), (((refl, refl), (refl, refl)), ((refl, refl), (refl, refl)))), tt))))))))))))
