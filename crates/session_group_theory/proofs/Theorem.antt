-- DEMAND 3 IN GROUPS: the theorems. A word of a group is a slot of Whole sessions like any other. Assumes nothing.
use Prim.Native.Nat.{ℕ, zero, suc, ◌+◌, ◌*◌, ◌%◌, ◌^◌, ◌≤◌, ◌<◌}
use mathlib.Core.Path.{◌≡◌, refl, ap, ap₂, sym, subst, ◌∙◌}
use mathlib.Core.Bool.{true}
use mathlib.Core.List.{List, [], ◌∷◌, map}
use mathlib.Core.Option.{some, some-injective, none-ne-some}
use Rattle.std.specs.Prelude.{Some}
use native.Mathlib.Nat.{zero-add, suc-add}
use native.Mathlib.Omega.{arith}
use lib.ListN.{length, get_elem?, take, drop, length-drop, length-map}
use lib.Seq.{length-take-le}
use Rattle.code_theory.specs.Sum.{at}
use Rattle.code_theory.specs.Modular.{differ}
use Rattle.code_theory.specs.Code.{Symbols}
use Rattle.code_theory.specs.Turn.{turn, altered}
use Rattle.code_theory.specs.Question.{is_alphabet, is_variables}
use Rattle.code_theory.proofs.SumLaws.{sum_ext}
use Rattle.code_theory.proofs.QuestionLaws.{alphabet_positive}
use Rattle.interleave_theory.specs.Group.{is_group, group_refusal}
use Rattle.interleave_theory.proofs.GroupLaws.{not_refused, rearrange_is, put_back_is}
use Rattle.interleave_burst_theory.specs.Burst.{word_of, altered_in}
use Rattle.interleave_burst_theory.proofs.RunLaws.{run_light}
use Rattle.interleave_burst_theory.proofs.JoinLaws.{Words, codeword_symbols, rearranged_at, joined_accepted, put_back_at}
use Rattle.session_sender.specs.declared.Sender.{Sender}
use Rattle.session_sender.specs.Sending.{open_sender}
use Rattle.session_sender.proofs.SoundLaws.{sender_opened_lem}
use Rattle.session_receiver.specs.declared.Receiver.{Receiver}
use Rattle.session_receiver.specs.Receiving.{open_receiver}
use Rattle.session_history_theory.specs.Calls.{Send, SenderSlot, sender_slots, sender_after, ReceiverCall, ReceiverSlot, receiver_slots, receiver_after}
use Rattle.session_history_theory.specs.Whole.{received_word}
use Rattle.session_history_theory.proofs.Theorem.{strap_word, whole_sessions}
use Rattle.session_group_theory.specs.Grouped.{group_at, Passage, group_sent, group_returned, returned_word, WholeGroup, BurstPassage, GroupedSlot, GroupedSessions}

drop_at : {A : Type 0} (k : ℕ) (xs : List A) (i : ℕ) → get_elem? (drop k xs) i ≡ get_elem? xs (k + i)
drop_at zero xs i = ap (get_elem? xs) (sym (zero-add i))
drop_at (suc k) [] i = refl
drop_at (suc k) (x ∷ xs) i = drop_at k xs i ∙ ap (get_elem? (x ∷ xs)) (sym (suc-add k i))

-- each slot has a word of n symbols below q
abbrev Slots : ℕ → ℕ → List SenderSlot → Type 0
Slots q n slots = (j : ℕ) (x : SenderSlot) → get_elem? slots j ≡ some x → Symbols q n x.word

-- the words of the first n slots
abbrev first_words : ℕ → List SenderSlot → List (List ℕ)
first_words n slots = map (λ slot. slot.word) (take n slots)

first_at : (n : ℕ) (slots : List SenderSlot) (w : ℕ) (x : SenderSlot) → w < n → get_elem? slots w ≡ some x → get_elem? (first_words n slots) w ≡ some x.word
first_at zero slots w x h e = absurd (omega (arith, h))
first_at (suc n) [] w x h e = absurd (none-ne-some x e)
first_at (suc n) (slot ∷ slots) zero x h e = ap (λ y. some y.word) (some-injective slot x e)
first_at (suc n) (slot ∷ slots) (suc w) x h e = first_at n slots w x (omega (arith, h)) e

first_words_lem : (q k n : ℕ) (slots : List SenderSlot) → Slots q k slots → Words q k (first_words n slots)
first_words_lem q k zero slots h w word e = absurd (none-ne-some word e)
first_words_lem q k (suc n) [] h w word e = absurd (none-ne-some word e)
first_words_lem q k (suc n) (slot ∷ slots) h zero word e = subst (Symbols q k) (some-injective slot.word word e) (h 0 slot refl)
first_words_lem q k (suc n) (slot ∷ slots) h (suc w) word e = first_words_lem q k n slots (λ j. h (suc j)) w word e

first_length : (n : ℕ) (slots : List SenderSlot) → n ≤ length slots → length (first_words n slots) ≡ n
first_length n slots h = length-map (take n slots) (λ slot. slot.word) ∙ length-take-le n slots h

module _ (q m count : ℕ) (strap : List SenderSlot) (slots : Slots q (2 ^ m) strap) (g : ℕ) where
  words : Words q (2 ^ m) (first_words count (drop (count * g) strap))
  words = first_words_lem q (2 ^ m) count _ (λ j x e. slots (count * g + j) x (sym (drop_at (count * g) strap j) ∙ e))

  whole_accepted : is_alphabet q ≡ true → is_variables m ≡ true → is_group count ≡ true → (target : List ℕ)
      → count * g + count ≤ length strap → length target ≡ count * 2 ^ m → group_refusal q m count (group_at count strap g) target ≡ 0
  unfolding group_at
  whole_accepted alphabet variables group target whole room =
      joined_accepted q m count _ target alphabet variables group words (first_length count _ (omega (arith, whole, length-drop (count * g) strap))) room

  module _ (t w : ℕ) (x : SenderSlot) (passage : Passage) (whole : WholeGroup q m count strap passage g) (h : w < count) (e : get_elem? strap (count * g + w) ≡ some x) where
    -- symbol s of the word, as it is sent and as it is put back
    sent_at : (s : ℕ) → s < 2 ^ m → at x.word s ≡ at (group_sent q m count (group_at count strap g) passage) (s * count + w)
    unfolding group_sent group_at
    sent_at s l =
        sym (ap (λ y. at y (s * count + w)) (rearrange_is q m count _ passage.outgoing whole.rearranges)
        ∙ rearranged_at q (2 ^ m) count _ words w x.word h (first_at count _ w x h (drop_at (count * g) strap w ∙ e)) s l)

    returned_at : (s : ℕ) → s < 2 ^ m → at (returned_word q m count passage w) s ≡ at passage.arrived (s * count + w)
    unfolding returned_word group_returned
    returned_at s l =
        ap (λ y. at (word_of (2 ^ m) y w) s) (put_back_is q m count passage.arrived passage.incoming whole.puts_back)
        ∙ put_back_at (2 ^ m) count passage.arrived w h s l

    counted : altered q m t (at x.word) (at (returned_word q m count passage w))
        ≡ altered_in (2 ^ m) count w (turn q t (at (group_sent q m count (group_at count strap g) passage))) (at passage.arrived)
    unfolding altered turn altered_in
    counted = sum_ext (2 ^ m) _ _ (λ s l. ap₂ differ (ap (λ a. (a + t) % q) (sent_at s l)) (returned_at s l))

-- every slot of the strap has a word of n symbols below q
strap_slots : (q m : ℕ) (sender : Sender) → open_sender q m ≡ Some sender → (sends : List Send) → Slots q (2 ^ m) (sender_slots sender sends)
strap_slots q m sender a sends j x e =
    let (alphabet, _, _) = sender_opened_lem q m sender a in
    let (_, f) = strap_word q m sender a sends j x e in
    subst (Symbols q (2 ^ m)) (sym f.word) (codeword_symbols q m _ (alphabet_positive q alphabet))

-- WHOLE SESSIONS IN GROUPS: for every q and m that the openings accept, every turn t, every W from 1 to 16, every two lists of calls, and
-- every passage of the groups
pub grouped_sessions : (q m : ℕ) (sender : Sender) (receiver : Receiver) → open_sender q m ≡ Some sender → open_receiver q m ≡ Some receiver
    → (t : ℕ) → t < q → (count : ℕ) → is_group count ≡ true → (sends : List Send) (calls : List ReceiverCall) (passages : ℕ → Passage)
    → GroupedSessions q m t count (sender_slots sender sends) (receiver_slots receiver calls) (sender_after sender sends) (receiver_after receiver calls) passages
grouped_sessions q m sender receiver a b t l count group sends calls passages =
    let (alphabet, variables, _) = sender_opened_lem q m sender a in
    let slots = strap_slots q m sender a sends in
    record {
      whole = whole_sessions q m sender receiver a b t l sends calls;
      light = λ g w x slot. record { sent = slot.slot; received = slot.received; light = slot.light };
      counted = λ g w x whole. counted q m count _ slots g t w x (passages g) whole;
      rearranges = λ g whole. whole_accepted q m count _ slots g alphabet variables group (passages g).outgoing whole;
      puts_back = λ g length below room. not_refused q m count _ _ (record {
        alphabet = alphabet;
        variables = variables;
        group = group;
        source = length;
        target = room;
        below = below;
      });
    }

-- ONE RUN, WHOLE SESSIONS: each word of a group that only such a run altered is a slot of which Whole sessions speaks
pub burst_slots : (q m : ℕ) (sender : Sender) → open_sender q m ≡ Some sender → (t count : ℕ) (sends : List Send) (launch : List ReceiverSlot)
    → (passage : Passage) (g start len : ℕ) → BurstPassage q m t count start len (sender_slots sender sends) passage g
    → (w : ℕ) (x : SenderSlot) → w < count → get_elem? (sender_slots sender sends) (count * g + w) ≡ some x
    → received_word (get_elem? launch (count * g + w)) ≡ some (returned_word q m count passage w)
    → GroupedSlot q m t count (sender_slots sender sends) launch passage g w x
burst_slots q m sender a t count sends launch passage g start len burst w x h e received = record {
  whole = burst.whole;
  word = h;
  slot = e;
  received = received;
  light = omega (
    arith,
    counted q m count _ (strap_slots q m sender a sends) g t w x passage burst.whole h e,
    run_light m count start len _ _ (omega (arith, burst.short)) burst.run w h,
  );
}
