-- The votes in lanes are those of the places that the lanes hold. Assumes nothing.
use Prim.Native.Nat.{ℕ, zero, suc, ◌+◌, ◌*◌, ◌%◌, ◌^◌, ◌≤◌, ◌<◌}
use mathlib.Core.Path.{◌≡◌, refl, ap, ap₂, sym, ◌∙◌}
use mathlib.Core.List.{List}
use native.Mathlib.Omega.{arith}
use native.Mathlib.Nat.{zero-add, zero-div}
use Rattle.code_theory.specs.Sum.{sum, tabulate, at}
use Rattle.code_theory.specs.Index.{bit, if_clear}
use Rattle.code_theory.specs.Modular.{sub_mod, same}
use Rattle.code_theory.specs.Vote.{count, vote, votes}
use Rattle.code_theory.proofs.SumLaws.{sum_ext, sum_const, tabulate_at}
use Rattle.code_theory.proofs.IndexLaws.{partner_lt, clear_halves, clear_first}
use Rattle.code_theory.proofs.ModularLaws.{sub_mod_is, same_ne}
use Rattle.code_theory.proofs.VoteLaws.{votes_ext}
use Rattle.swar_theory.specs.Internal.{digit}
use Rattle.swar_lanes.specs.Internal.{offset, lane_of, place_of, places_of, Lanes, Held, place, VotesWithin}
use Rattle.swar_lanes.proofs.LaneLaws.{offset_lt, at_lane, first_places, second_places}
use Rattle.swar_lanes.proofs.SpotLaws.{within_sum, offset_sum}
use Rattle.swar_count.specs.Internal.{lanes_equal}
use Rattle.decode_short_margin.specs.Internal.{both_votes}

-- NO ERRORS: every place of 0 is 0, so no vote is wrong
no_place : (i : ℕ) → place_of 0 i ≡ 0
unfolding place_of digit
no_place i = ap (λ z. z % 2 ^ 4) (zero-div (2 ^ (4 * lane_of i)))

no_votes : (q k v : ℕ) → 0 < q → 1 ≤ v → votes q 4 k (place_of 0) v ≡ 0
unfolding votes count if_clear vote
no_votes q k v hq hv = sum_ext 16 _ (λ i. 0) (λ i l. go i (bit k i)) ∙ sum_const 16 0
  where
    none : sub_mod q 0 0 ≡ 0
    none = sub_mod_is q 0 0 0 hq hq refl

    go : (i b : ℕ) → if_clear b (same (sub_mod q (place_of 0 (i + 2 ^ k)) (place_of 0 i)) v) ≡ 0
    go i zero = same_ne _ v (λ e. absurd (omega (arith, hv, sym e ∙ ap₂ (sub_mod q) (no_place (i + 2 ^ k)) (no_place i) ∙ none)))
    go i (suc b) = refl

pub both_none : (q k f : ℕ) → 0 < q → (v : ℕ) → 1 ≤ v → both_votes q k f 0 v ≡ votes q 4 k (place_of f) v
unfolding both_votes
both_none q k f hq v hv = omega (arith, no_votes q k v hq hv)

-- for the coefficients 0 to 3 the votes of 32 places are those of each number
pub votes_both : (q k f h : ℕ) → k < 4 → (v : ℕ) → votes q 5 k (places_of f h) v ≡ both_votes q k f h v
unfolding votes count both_votes if_clear vote
votes_both q k f h hk v =
    clear_halves k 4 hk (λ i. same (vote q k (places_of f h) i) v)
    ∙ ap₂ (λ x y. x + y) (sum_ext 16 _ _ (λ i l. low i l (bit k i) refl)) (sum_ext 16 _ _ (λ i l. high i l (bit k i)))
  where
    low : (i : ℕ) → i < 16 → (b : ℕ) → bit k i ≡ b → if_clear b (same (vote q k (places_of f h) i) v) ≡ if_clear b (same (vote q k (place_of f) i) v)
    low i l zero z = ap₂ (λ x y. same (sub_mod q x y) v) (first_places f h (i + 2 ^ k) (partner_lt k 4 i hk l z)) (first_places f h i l)
    low i l (suc b) z = refl

    high : (i : ℕ) → i < 16 → (b : ℕ) → if_clear b (same (vote q k (places_of f h) (16 + i)) v) ≡ if_clear b (same (vote q k (place_of h) i) v)
    high i l zero = ap₂ (λ x y. same (sub_mod q x y) v) (second_places f h (16 + i + 2 ^ k) (i + 2 ^ k) (omega arith)) (second_places f h (16 + i) i refl)
    high i l (suc b) = refl

-- for coefficient 4 the partner of each place in f stands in the same lane of h
pub votes_last : (q f h v : ℕ) → votes q 5 4 (places_of f h) v ≡ sum 16 (λ t. same (sub_mod q (digit 4 h t) (digit 4 f t)) v)
unfolding votes count vote
votes_last q f h v =
    clear_first 4 (λ i. same (vote q 4 (places_of f h) i) v)
    ∙ sum_ext 16 _ (λ i. same (sub_mod q (place_of h i) (place_of f i)) v) low
    ∙ sym (offset_sum (λ i. same (sub_mod q (place_of h i) (place_of f i)) v))
    ∙ sum_ext 16 _ _ (λ t l. ap₂ (λ x y. same (sub_mod q x y) v) (at_lane h t l) (at_lane f t l))
  where
    low : (i : ℕ) → i < 16 → same (vote q 4 (places_of f h) i) v ≡ same (sub_mod q (place_of h i) (place_of f i)) v
    low i l = ap₂ (λ x y. same (sub_mod q x y) v) (second_places f h (i + 16) i (omega arith)) (first_places f h i l)

-- THE VOTES IN LANES for the coefficients 0 to 3 are those of the 32 places
module _ (q k f h x : ℕ) (hk : k < 4) (within : VotesWithin q k f h x) where
  -- the word of the 32 places
  abbrev word : List ℕ
  word = tabulate 32 (places_of f h)

  place_at : (i : ℕ) → i < 32 → at word i ≡ places_of f h i
  place_at i l = tabulate_at 32 (places_of f h) i l

  first_held : Held word 0 f
  first_held t l =
      sym (ap (at word) (zero-add (offset t)) ∙ place_at (offset t) (omega (arith, offset_lt t l)) ∙ first_places f h (offset t) (offset_lt t l) ∙ at_lane f t l)

  second_held : Held word 16 h
  second_held t l = sym (place_at (16 + offset t) (omega (arith, offset_lt t l)) ∙ second_places f h (16 + offset t) (offset t) refl ∙ at_lane h t l)

  within_votes : (v : ℕ) → lanes_equal x v ≡ votes q 5 k (at word) v
  unfolding lanes_equal votes count
  within_votes v =
      sum_ext 16 _ _ (λ t l. ap (λ y. same y v) (within word 0 first_held second_held t l ∙ ap (vote q k (at word)) (zero-add (place k t))))
      ∙ within_sum k hk (λ i. same (vote q k (at word) i) v)

  pub lanes_both : (v : ℕ) → lanes_equal x v ≡ both_votes q k f h v
  lanes_both v = within_votes v ∙ votes_ext q 5 k (at word) (places_of f h) (omega arith) (λ i l. place_at i l) v ∙ votes_both q k f h hk v

-- the votes in lanes for coefficient 4 are those of the 32 places
pub last_lanes : (q f h d : ℕ) → Lanes d (λ t. sub_mod q (digit 4 h t) (digit 4 f t)) → (v : ℕ) → lanes_equal d v ≡ votes q 5 4 (places_of f h) v
unfolding lanes_equal
last_lanes q f h d l v = sum_ext 16 _ _ (λ t i. ap (λ x. same x v) (l t i)) ∙ sym (votes_last q f h v)
