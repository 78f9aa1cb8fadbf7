-- THE BURST THEOREM, and what leads to it. Assumes nothing.
use Prim.Native.Nat.{ℕ, zero, suc, ◌*◌, ◌-◌, ◌/◌, ◌^◌, ◌<◌}
use mathlib.Core.Path.{◌≡◌, ap, ap₂, sym, subst, ◌∙◌}
use mathlib.Core.Bool.{true}
use mathlib.Core.List.{List, [], ◌∷◌, map}
use mathlib.Core.Option.{some, some-injective, none-ne-some}
use native.Mathlib.Nat.{mul-zero}
use native.Mathlib.Numerals.{add-one}
use native.Mathlib.Omega.{arith}
use lib.ListN.{length, get_elem?, length-map}
use Rattle.code_theory.specs.Sum.{at}
use Rattle.code_theory.specs.Modular.{differ}
use Rattle.code_theory.specs.Code.{codeword, Symbols}
use Rattle.code_theory.specs.Near.{distance, Near}
use Rattle.code_theory.specs.Nearest.{nearest, near_distance, near_margin}
use Rattle.code_theory.specs.Question.{is_alphabet, is_variables, accepted}
use Rattle.code_theory.proofs.SumLaws.{sum_ext}
use Rattle.code_theory.proofs.CodeLaws.{codeword_at}
use Rattle.code_theory.proofs.NearestLaws.{near_found, readable}
use Rattle.code_theory.proofs.QuestionLaws.{ask_on, alphabet_positive, message_yes, word_yes, answer_yes, after_yes}
use Rattle.codec.specs.Codec.{decode_refusal, decode_answer, decode_message}
use Rattle.interleave_theory.specs.Place.{put_back}
use Rattle.interleave_theory.specs.Group.{is_group, group_refusal, put_back_target}
use Rattle.interleave_theory.proofs.GroupLaws.{passes, rearrange_is, put_back_is}
use Rattle.interleave_burst_theory.specs.Burst.{word_of, altered_in, words_of, sent_group, Burst, BurstRead}
use Rattle.interleave_burst_theory.proofs.RunLaws.{run_light, run_empty}
use Rattle.interleave_burst_theory.proofs.JoinLaws.{Words, codeword_symbols, index_lt, rearranged_at, joined_accepted, put_back_at, put_back_length, put_back_below}

map_at : (f : List ℕ → List ℕ) (xs : List (List ℕ)) (i : ℕ) (x : List ℕ) → get_elem? xs i ≡ some x → get_elem? (map f xs) i ≡ some (f x)
map_at f [] i x e = absurd (none-ne-some x e)
map_at f (y ∷ xs) zero x e = ap (λ z. some (f z)) (some-injective y x e)
map_at f (y ∷ xs) (suc i) x e = map_at f xs i x e

codewords : (q m : ℕ) → 0 < q → (messages : List (List ℕ)) → Words q (2 ^ m) (map (codeword q m) messages)
codewords q m h [] w word e = absurd (none-ne-some word e)
codewords q m h (message ∷ messages) zero word e = subst (Symbols q (2 ^ m)) (some-injective (codeword q m message) word e) (codeword_symbols q m message h)
codewords q m h (message ∷ messages) (suc w) word e = codewords q m h messages w word e

module _ (q m count : ℕ) (alphabet : is_alphabet q ≡ true) (variables : is_variables m ≡ true) (group : is_group count ≡ true)
    (start len : ℕ) (messages : List (List ℕ)) (arrived : List ℕ) (burst : Burst q m count start len messages arrived) where
  -- what was sent and what arrived, by the place in the air
  abbrev sent_at : ℕ → ℕ
  sent_at = at (sent_group q m count messages)

  abbrev arrived_at : ℕ → ℕ
  arrived_at = at arrived

  -- word w as it is put back
  abbrev back : ℕ → List ℕ
  back w = word_of (2 ^ m) (put_back count (2 ^ m) arrived) w

  words : Words q (2 ^ m) (map (codeword q m) messages)
  words = codewords q m (alphabet_positive q alphabet) messages

  module _ (w : ℕ) (message : List ℕ) (e : get_elem? messages w ≡ some message) where
    inside : w < count
    inside = omega (arith, index_lt messages w message e, burst.size)

    -- what a word differs by from its message's word is what the run altered of it
    distance_altered : distance q m (at message) (at (back w)) ≡ altered_in (2 ^ m) count w sent_at arrived_at
    unfolding distance altered_in sent_group words_of
    distance_altered = sum_ext (2 ^ m) _ _ (λ s l.
        ap₂ differ
        (sym (rearranged_at q (2 ^ m) count _ words w _ inside (map_at (codeword q m) messages w message e) s l ∙ codeword_at q m message s l))
        (put_back_at (2 ^ m) count arrived w inside s l))

    near : Near q m (at message) (at (back w))
    near = omega (arith, run_light m count start len sent_at arrived_at (omega (arith, burst.short, inside)) burst.run w inside, distance_altered)

    reads : nearest q m (back w) ≡ some message
    reads = near_found q m (alphabet_positive q alphabet) (back w) message (burst.symbols w message e) near

    wrong : near_distance q m (back w) ≡ altered_in (2 ^ m) count w sent_at arrived_at
    unfolding near_distance
    wrong = ap (λ t. distance q m (at t) (at (back w))) (readable q m (back w) message reads).1 ∙ distance_altered

    -- Read, of a word of what an accepted Put back leaves
    module _ (target : List ℕ) (z : group_refusal q m count arrived target ≡ 0) (buffer : List ℕ) (size : length buffer ≡ suc m) where
      abbrev word : List ℕ
      word = word_of (2 ^ m) (put_back_target q m count arrived target) w

      word_is : word ≡ back w
      word_is = ap (λ y. word_of (2 ^ m) y w) (put_back_is q m count arrived target z)

      read_accepted : decode_refusal q m buffer (back w) ≡ 0
      unfolding decode_refusal
      read_accepted =
          let g = passes q m count arrived target z in
          ask_on _ _ _ alphabet ∙ ask_on _ _ _ variables ∙ ask_on _ _ _ (message_yes m buffer (size ∙ sym (add-one m)))
          ∙ ask_on _ _ _ (word_yes m (back w) (put_back_length (2 ^ m) count arrived w inside))
          ∙ ask_on _ _ _ (put_back_below (2 ^ m) count arrived w inside q g.source g.below)
          ∙ ask_on _ _ _ (readable q m (back w) message reads).0

      answers : decode_answer q m buffer word ≡ accepted (altered_in (2 ^ m) count w sent_at arrived_at ∷ near_margin q m word ∷ [])
      unfolding decode_answer
      answers =
          answer_yes _ _ (ap (decode_refusal q m buffer) word_is ∙ read_accepted)
          ∙ ap (λ d. accepted (d ∷ near_margin q m word ∷ [])) (ap (near_distance q m) word_is ∙ wrong)

      leaves : decode_message q m buffer word ≡ message
      unfolding decode_message
      leaves = ap (decode_message q m buffer) word_is ∙ after_yes _ _ buffer read_accepted ∙ (readable q m (back w) message reads).1

  -- at m = 2 there is no such run but the empty one
  no_run : m ≡ 2 → len ≡ 0
  no_run e =
      let none : 2 ^ m / 4 - 1 ≡ 0 = ap (λ k. 2 ^ k / 4 - 1) e in
      omega (arith, burst.short, ap (λ k. count * k) none, mul-zero count)

  burst_read : BurstRead q m count len messages arrived
  unfolding words_of sent_group
  burst_read = record {
    reads = reads;
    wrong = wrong;
    none = no_run;
    empty = λ e. run_empty (count * 2 ^ m) start len sent_at arrived_at (omega (arith, no_run e)) burst.run;
    rearrange = λ target room.
        let z = joined_accepted q m count _ target alphabet variables group words (length-map messages (codeword q m) ∙ burst.size) room in
        (z, rearrange_is q m count _ target z);
    read = λ target z w message e buffer size. (answers w message e target z buffer size, leaves w message e target z buffer size);
  }

-- THE BURST THEOREM: for every q, m and W that the questions accept, every W messages, and every run of at most W × (n/4 − 1) symbols
pub bursts : (q m count : ℕ) → is_alphabet q ≡ true → is_variables m ≡ true → is_group count ≡ true
    → (start len : ℕ) (messages : List (List ℕ)) (arrived : List ℕ) → Burst q m count start len messages arrived → BurstRead q m count len messages arrived
bursts = burst_read
