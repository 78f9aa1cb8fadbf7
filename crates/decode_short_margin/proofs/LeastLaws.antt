-- Leads are equal where the votes are, and the least of them. Assumes nothing.
use Prim.Native.Nat.{ℕ, ◌*◌, ◌-◌, ◌^◌, ◌≤◌, ◌<◌, min}
use mathlib.Core.Path.{◌≡◌, refl, ap, ap₂, sym, ◌∙◌}
use mathlib.Core.Bool.{true}
use native.Mathlib.Omega.{arith}
use Rattle.code_theory.specs.Vote.{votes}
use Rattle.code_theory.specs.Margin.{lead, least}
use Rattle.code_theory.specs.Question.{is_alphabet}
use Rattle.code_theory.proofs.QuestionLaws.{alphabet_positive}
use Rattle.code_theory.proofs.MarginLaws.{least_ext, lead_ext}
use Rattle.code_theory.proofs.VoteLaws.{votes_ext}
use Rattle.code_theory.proofs.ErrorLaws.{sum_from1_ext, max_from1_ext, lead_zero}
use Rattle.code_theory.specs.Internal.{sum_from1, max_from1}
use Rattle.code_theory.proofs.WordLaws.{bounds}
use Rattle.swar_lanes.specs.Internal.{LanesBelow, place_of, places_of}
use Rattle.swar_lanes.proofs.LaneLaws.{none_below, first_places}
use Rattle.swar_count.specs.Internal.{lanes_equal}
use Rattle.decode_short_margin.specs.Internal.{both_votes, lead_by, Errors}
use Rattle.decode_short_margin.proofs.LaneLaws.{both_none, votes_both}

pub lead_by_ext : (q half : ℕ) (f g : ℕ → ℕ) → ((v : ℕ) → 1 ≤ v → f v ≡ g v) → lead_by q half f ≡ lead_by q half g
unfolding lead_by
lead_by_ext q half f g h = ap₂ (λ x y. half - x - y) (sum_from1_ext (q - 1) f g h) (max_from1_ext (q - 1) f g h)

-- FEW WRONG VOTES stay few where the votes are equal
pub few_same : (q half : ℕ) (f g : ℕ → ℕ) → ((v : ℕ) → 1 ≤ v → f v ≡ g v) → 2 * sum_from1 (q - 1) g ≤ half → 2 * sum_from1 (q - 1) f ≤ half
few_same q half f g e l = omega (arith, sum_from1_ext (q - 1) f g e, l)

-- a lead as `decode_short_lead::lead` ensures it, with g for the votes f
pub lead_same : (q half r : ℕ) (f g : ℕ → ℕ) → ((v : ℕ) → 1 ≤ v → f v ≡ g v) → r ≡ half - sum_from1 (q - 1) f - max_from1 (q - 1) f → r ≡ lead_by q half g
unfolding lead_by
lead_same q half r f g e k = k ∙ lead_by_ext q half f g e

-- THE LEAD of the votes in the lanes of x: what `decode_short_lead::lead` requires, and what it ensures
module _ (q half x : ℕ) (g : ℕ → ℕ) (a : is_alphabet q ≡ true) (b : LanesBelow q x) (e : (v : ℕ) → lanes_equal x v ≡ g v) (s : half ≤ 16) (few : 2 * sum_from1 (q - 1) g ≤ half) where
  pub lead_room : LanesBelow q x × (2 ≤ q) × (q ≤ 8) × (sum_from1 (q - 1) (lanes_equal x) < 15) × (2 * sum_from1 (q - 1) (lanes_equal x) ≤ half)
  lead_room =
      let l = few_same q half (lanes_equal x) g (λ v _. e v) few in
      (b, (bounds q a).0, (bounds q a).1, omega (arith, l, s), l)

  pub lead_told : (r : ℕ) → r ≡ half - sum_from1 (q - 1) (lanes_equal x) - max_from1 (q - 1) (lanes_equal x) → r ≡ lead_by q half g
  lead_told r k = lead_same q half r (lanes_equal x) g (λ v _. e v) k

-- THE LEAST OF FOUR is computed one after the other
pub least_four : (g : ℕ → ℕ) (a b c d r1 r2 r3 : ℕ) → a ≡ g 0 → b ≡ g 1 → r1 ≡ min a b → c ≡ g 2 → r2 ≡ min r1 c → d ≡ g 3 → r3 ≡ min r2 d → r3 ≡ least 3 g
unfolding least
least_four g a b c d r1 r2 r3 ea eb e1 ec e2 ed e3 = omega arith

-- 16 PLACES: the second number has no wrong vote
pub errors_16 : (q half f : ℕ) → 8 ≤ half → half ≤ 16 → is_alphabet q ≡ true → LanesBelow q f
    → ((k : ℕ) → k < 4 → sum_from1 (q - 1) (votes q 4 k (place_of f)) < 4) → Errors q half f 0
errors_16 q half f h s a bf l = record {
  alphabet = a;
  first = bf;
  second = none_below q a;
  size = s;
  few = λ k i. few_same q half (both_votes q k f 0) (votes q 4 k (place_of f)) (both_none q k f (alphabet_positive q a)) (omega (arith, l k i));
}

pub margin_16_is : (q f r : ℕ) → is_alphabet q ≡ true → r ≡ least 3 (λ k. lead_by q 8 (both_votes q k f 0)) → r ≡ least 3 (λ k. lead q 0 (votes q 4 k (place_of f)))
unfolding lead_by
margin_16_is q f r a e =
    e ∙ least_ext 3 (λ k. lead_by q 8 (both_votes q k f 0)) (λ k. lead q 0 (votes q 4 k (place_of f)))
    (λ k l. lead_by_ext q 8 (both_votes q k f 0) (votes q 4 k (place_of f)) (both_none q k f (alphabet_positive q a)) ∙ sym (lead_zero q 4 k (place_of f) (alphabet_positive q a) l))

-- 32 PLACES: for the coefficients 0 to 3 the votes are those of each number
pub errors_32 : (q f h : ℕ) → is_alphabet q ≡ true → LanesBelow q f → LanesBelow q h → ((k : ℕ) → k < 5 → sum_from1 (q - 1) (votes q 5 k (places_of f h)) < 8) → Errors q 16 f h
errors_32 q f h a bf bh l = record {
  alphabet = a;
  first = bf;
  second = bh;
  size = omega arith;
  few = λ k i. few_same q 16 (both_votes q k f h) (votes q 5 k (places_of f h)) (λ v _. sym (votes_both q k f h i v)) (omega (arith, l k (omega arith)));
}

pub margin_32_is : (q f h a b r : ℕ) → is_alphabet q ≡ true → a ≡ least 3 (λ k. lead_by q 16 (both_votes q k f h)) → b ≡ lead_by q 16 (votes q 5 4 (places_of f h)) → r ≡ min a b
    → r ≡ least 4 (λ k. lead q 0 (votes q 5 k (places_of f h)))
unfolding lead_by least
margin_32_is q f h a b r al ea eb e = e ∙ ap₂ min (ea ∙ four) (eb ∙ sym (lead_zero q 5 4 (places_of f h) (alphabet_positive q al) (omega arith)))
  where
    four : least 3 (λ k. lead_by q 16 (both_votes q k f h)) ≡ least 3 (λ k. lead q 0 (votes q 5 k (places_of f h)))
    four =
        least_ext 3 (λ k. lead_by q 16 (both_votes q k f h)) (λ k. lead q 0 (votes q 5 k (places_of f h)))
        (λ k l. lead_by_ext q 16 (both_votes q k f h) (votes q 5 k (places_of f h)) (λ v _. sym (votes_both q k f h l v))
        ∙ sym (lead_zero q 5 k (places_of f h) (alphabet_positive q al) (omega arith)))

-- EITHER LENGTH: the places of a word of 16 stand in f, whatever h is
module _ (q f h : ℕ) where
  first_votes : (k v : ℕ) → k < 4 → votes q 4 k (places_of f h) v ≡ votes q 4 k (place_of f) v
  first_votes k v l = votes_ext q 4 k (places_of f h) (place_of f) l (λ i j. first_places f h i j) v

  pub few_first : (m : ℕ) → m ≡ 4 → ((k : ℕ) → k < m → 4 * sum_from1 (q - 1) (votes q m k (places_of f h)) < 2 ^ m) → (k : ℕ) → k < 4 → sum_from1 (q - 1) (votes q 4 k (place_of f)) < 4
  few_first m e l k i =
      omega (
        arith,
        ap (λ z. sum_from1 (q - 1) (votes q z k (places_of f h))) e,
        ap (λ z. 2 ^ z) e,
        l k (omega (arith, e, i)),
        sum_from1_ext (q - 1) (votes q 4 k (places_of f h)) (votes q 4 k (place_of f)) (λ v _. first_votes k v i),
      )

  pub few_both : (m : ℕ) → m ≡ 5 → ((k : ℕ) → k < m → 4 * sum_from1 (q - 1) (votes q m k (places_of f h)) < 2 ^ m) → (k : ℕ) → k < 5 → sum_from1 (q - 1) (votes q 5 k (places_of f h)) < 8
  few_both m e l k i = omega (arith, ap (λ z. sum_from1 (q - 1) (votes q z k (places_of f h))) e, ap (λ z. 2 ^ z) e, l k (omega (arith, e, i)))

  pub least_first_is : (m r : ℕ) → m ≡ 4 → r ≡ least 3 (λ k. lead q 0 (votes q 4 k (place_of f))) → r ≡ least (m - 1) (λ k. lead q 0 (votes q m k (places_of f h)))
  least_first_is m r e g =
      rw e (g ∙ least_ext 3 (λ k. lead q 0 (votes q 4 k (place_of f))) (λ k. lead q 0 (votes q 4 k (places_of f h)))
      (λ k l. lead_ext q 0 0 (votes q 4 k (place_of f)) (votes q 4 k (places_of f h)) refl (λ v. sym (first_votes k v (omega arith)))))

  pub least_both_is : (m r : ℕ) → m ≡ 5 → r ≡ least 4 (λ k. lead q 0 (votes q 5 k (places_of f h))) → r ≡ least (m - 1) (λ k. lead q 0 (votes q m k (places_of f h)))
  least_both_is m r e g = rw e g
