-- The answer of Confirm by the first question answered no, or by the places that differ from the word of the message. Assumes nothing.
use Prim.Native.Nat.{ℕ, suc, ◌-◌, ◌*◌, ◌^◌, ◌≤◌, ◌<◌}
use mathlib.Core.Path.{◌≡◌, refl, ap, sym, ◌∙◌}
use mathlib.Core.Bool.{Bool, true, false, cond}
use mathlib.Core.List.{List, [], ◌∷◌}
use native.Mathlib.Omega.{arith}
use native.Mathlib.Nat.{pow-succ'}
use native.Mathlib.Decide.{dec_le}
use lib.Dec.{ltb}
use lib.ListN.{length}
use lib.Pow.{pow_mono, pow_pos}
use borrow.Author.Tests.{lt-ltb, le-ltb}
use Rattle.code_theory.specs.Sum.{at}
use Rattle.code_theory.specs.Modular.{differ}
use Rattle.code_theory.specs.Near.{distance}
use Rattle.code_theory.specs.Nearest.{is_near}
use Rattle.code_theory.specs.Question.{accepted, refused, answer, is_alphabet}
use Rattle.code_theory.proofs.SumLaws.{sum_ext}
use Rattle.code_theory.proofs.QuestionLaws.{answer_yes}
use Rattle.code_questions.specs.declared.Refusal.{Refusal}
use Rattle.code_questions.specs.declared.Refusal.TheVariants.{Variables}
use Rattle.code_questions.specs.Refusal.{number}
use Rattle.code_questions.proofs.RefusalLaws.{refused_answer}
use Rattle.encode_codeword.specs.Internal.{Fits, Coded, Written}
use Rattle.encode_by_length.proofs.EncodeLaws.{variables_no, all_fits}
use Rattle.decode_near_places.specs.Internal.{differing}
use Rattle.decode_near.specs.Nearness.{encode_refusal, near_answer, near_values}

-- a question is answered no
refused_with : (n : ℕ) (r : Refusal) (values : List ℕ) → number r ≡ n → refused (number r) ≡ answer n values
refused_with n r values e = sym (refused_answer r values) ∙ ap (λ k. answer k values) e

pub near_refused : (q m : ℕ) (s w : List ℕ) (r : Refusal) → number r ≡ encode_refusal q m s w → refused (number r) ≡ near_answer q m s w
unfolding near_answer
near_refused q m s w r e = refused_with _ r _ e

-- question 2 is answered no
pub near_variables_no : (q m : ℕ) (s w : List ℕ) → is_alphabet q ≡ true → (2 ≤ m → m ≤ 8 → ⊥) → refused 2 ≡ near_answer q m s w
near_variables_no q m s w a h = near_refused q m s w Variables (variables_no q m s w a h).0

-- fewer than a quarter, counted four times
fewer_than : (d k : ℕ) → ltb d k ≡ ltb (4 * d) (4 * k)
fewer_than d k = go (dec_le k d)
  where
    go : Dec (k ≤ d) → ltb d k ≡ ltb (4 * d) (4 * k)
    go (yes h) = le-ltb d k h ∙ sym (le-ltb (4 * d) (4 * k) (omega arith))
    go (no h) = lt-ltb d k (omega arith) ∙ sym (lt-ltb (4 * d) (4 * k) (omega arith))

-- yes is 1, and no is 0
values_are : (b : Bool) → near_values b ≡ cond b 1 0 ∷ []
unfolding near_values
values_are true = refl
values_are false = refl

-- where v holds the word of s, it differs from w in as many places as w has wrong
coded_distance : (q m : ℕ) (s w v : List ℕ) → Coded q m s v → differing v w 0 (2 ^ m) ≡ distance q m (at s) (at w)
unfolding differing distance
coded_distance q m s w v c =
    sum_ext (2 ^ m) _ _ (λ i l. ap (λ p. differ (at v p) (at w p)) (omega arith) ∙ ap (λ x. differ x (at w i)) (c.each i l))

-- every question is answered yes
module _ (q m : ℕ) (s w : List ℕ) (e : encode_refusal q m s w ≡ 0) where
  -- the message's word can be written into a buffer that is as long or longer
  pub buffer_fits : (c : List ℕ) → 2 ^ m ≤ length c → Fits q m s c
  buffer_fits c room =
      let f = (all_fits q m s w e).0 in
      record { alphabet = f.alphabet; low = f.low; high = f.high; size = f.size; below = f.below; room = room }

  -- k is a quarter of the places
  module _ (k : ℕ) (z : k ≡ 2 ^ (m - 2)) where
    four_quarters : 2 ^ m ≡ 4 * k
    four_quarters =
        let f : m ≡ suc (suc (m - 2)) = omega (arith, (all_fits q m s w e).0.low) in
        ap (λ j. 2 ^ j) f ∙ omega (arith, z, pow-succ' 2 (suc (m - 2)), pow-succ' 2 (m - 2))

    -- the places of the word can be compared with those of the buffer c after the message's word is written into it
    pub quarters_fit : (c v : List ℕ) → Written q m s c v → 2 ^ m ≤ length c → (0 < k) × (k ≤ 64) × (length w ≡ 4 * k) × (length w ≤ length v)
    quarters_fit c v g room =
        let (f, size) = all_fits q m s w e in
        let top : 2 ^ (m - 2) ≤ 64 = pow_mono {i = m - 2} {j = 6} (omega (arith, f.high)) in
        (omega (arith, z, pow_pos (m - 2)), omega (arith, z, top), size ∙ four_quarters, omega (arith, size, room, g.size))

    -- the answer is whether fewer than a quarter of the places differ from the message's word
    pub near_told : (c v : List ℕ) (b : Bool) → Written q m s c v → b ≡ ltb (differing v w 0 (4 * k)) k → accepted (near_values b) ≡ near_answer q m s w
    unfolding near_answer is_near
    near_told c v b g h =
        let wrong : ℕ = distance q m (at s) (at w) in
        let d : differing v w 0 (4 * k) ≡ wrong = ap (λ n. differing v w 0 n) (sym four_quarters) ∙ coded_distance q m s w v g.coded in
        let n : b ≡ ltb (4 * wrong) (2 ^ m) = h ∙ ap (λ x. ltb x k) d ∙ fewer_than wrong k ∙ ap (λ x. ltb (4 * wrong) x) (sym four_quarters) in
        ap accepted (values_are b) ∙ ap (λ t. accepted (cond t 1 0 ∷ [])) n ∙ sym (answer_yes _ _ e)
