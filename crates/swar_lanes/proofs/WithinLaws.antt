-- Two numbers blended hold the votes of their 32 places. Assumes nothing.
use Prim.Native.Nat.{ℕ, ◌+◌, ◌*◌, ◌-◌, ◌/◌, ◌%◌, ◌^◌, ◌≤◌, ◌<◌}
use mathlib.Core.Path.{◌≡◌, ap, ap₂, sym, ◌∙◌}
use mathlib.Core.Bool.{true}
use native.Mathlib.Omega.{arith}
use native.Mathlib.Decide.{dec_lt}
use native.Mathlib.Nat.{add_comm, zero-add}
use Rattle.code_theory.specs.Sum.{at}
use Rattle.code_theory.specs.Index.{bit}
use Rattle.code_theory.specs.Modular.{sub_mod}
use Rattle.code_theory.specs.Vote.{vote}
use Rattle.code_theory.specs.Question.{is_alphabet}
use Rattle.code_theory.proofs.IndexLaws.{bit_lt, by_bit}
use Rattle.swar_theory.specs.Internal.{digit}
use Rattle.swar_theory.proofs.DigitLaws.{digit_under, digit_mod, digit_down, digit_up}
use Rattle.swar_lanes.specs.Internal.{Lanes, LanesBelow, Blend, lane_bit, place, VotesWithin}
use Rattle.swar_lanes.proofs.LaneLaws.{none_below}
use Rattle.swar_lanes.proofs.SpotLaws.{lane_up, lane_down, place_low, place_high}

-- a blend of two numbers whose lanes are below q has its lanes below q
pub blend_below : (q l u v r : ℕ) → LanesBelow q u → LanesBelow q v → Blend l u v r → LanesBelow q r
blend_below q l u v r hu hv b t h = by_bit (bit l t) (bit_lt l t)
    (λ z. omega (arith, b.low t h z, hu t h))
    (λ z. omega (arith, b.high t h z, hv t h))

-- a number moved up by n lanes has 0 in its first n lanes
pub up_below : (q n x step : ℕ) → is_alphabet q ≡ true → LanesBelow q x → step ≡ 4 * n → LanesBelow q ((x * 2 ^ step) % 18446744073709551616)
up_below q n x step al b e t h = omega (arith, digit_mod 4 16 (x * 2 ^ step) t h, ap (λ z. digit 4 (x * 2 ^ z) t) e, go (dec_lt t n))
  where
    go : Dec (t < n) → digit 4 (x * 2 ^ (4 * n)) t < q
    go (yes l) =
        omega (arith, ap (λ z. digit 4 z t) (zero-add (x * 2 ^ (4 * n))), digit_under 4 n t 0 x l, none_below q al t h)
    go (no l) =
        let i : n + (t - n) ≡ t = omega arith in
        omega (arith, ap (digit 4 (x * 2 ^ (4 * n))) i, digit_up 4 x n (t - n), b (t - n) (omega arith))

module _ (q k a b l p step high low : ℕ) (hk : k < 4) (e : l ≡ lane_bit k) (f : p ≡ a / 2 ^ (4 * 2 ^ lane_bit k)) (g : step ≡ 4 * 2 ^ lane_bit k)
    (upper : Blend l p b high) (lower : Blend l a ((b * 2 ^ step) % 18446744073709551616) low) where
  lanes_of : (t : ℕ) → bit (lane_bit k) t ≡ bit l t
  lanes_of t = ap (λ z. bit z t) (sym e)

  -- the lanes of high and of low, where the bit of the lane is 0 and where it is 1
  module _ (t : ℕ) (h : t < 16) where
    high_clear : bit (lane_bit k) t ≡ 0 → digit 4 high t ≡ digit 4 a (t + 2 ^ lane_bit k)
    high_clear z =
        upper.low t h (sym (lanes_of t) ∙ z) ∙ ap (λ x. digit 4 x t) f ∙ digit_down 4 a (2 ^ lane_bit k) t
        ∙ ap (digit 4 a) (add_comm (2 ^ lane_bit k) t)

    high_set : bit (lane_bit k) t ≡ 1 → digit 4 high t ≡ digit 4 b t
    high_set z = upper.high t h (sym (lanes_of t) ∙ z)

    low_clear : bit (lane_bit k) t ≡ 0 → digit 4 low t ≡ digit 4 a t
    low_clear z = lower.low t h (sym (lanes_of t) ∙ z)

    low_set : bit (lane_bit k) t ≡ 1 → digit 4 low t ≡ digit 4 b (t - 2 ^ lane_bit k)
    low_set z =
        let i : 2 ^ lane_bit k ≤ t = (lane_down k t hk h z).0 in
        let s : t ≡ 2 ^ lane_bit k + (t - 2 ^ lane_bit k) = omega (arith, i) in
        lower.high t h (sym (lanes_of t) ∙ z) ∙ digit_mod 4 16 (b * 2 ^ step) t h ∙ ap (λ x. digit 4 (b * 2 ^ x) t) g
        ∙ ap (digit 4 (b * 2 ^ (4 * 2 ^ lane_bit k))) s ∙ digit_up 4 b (2 ^ lane_bit k) (t - 2 ^ lane_bit k)

  -- THE VOTES: high minus low is the vote of the place of each lane
  pub within_votes : (r : ℕ) → Lanes r (λ t. sub_mod q (digit 4 high t) (digit 4 low t)) → VotesWithin q k a b r
  unfolding vote
  within_votes r d w i ha hb t h = d t h ∙ ap₂ (sub_mod q) (upper_symbol (bit_lt (lane_bit k) t)) (lower_symbol (bit_lt (lane_bit k) t))
    where
      upper_symbol : bit (lane_bit k) t < 2 → digit 4 high t ≡ at w (i + place k t + 2 ^ k)
      upper_symbol l = by_bit (bit (lane_bit k) t) l
          (λ z. high_clear t h z ∙ ha (t + 2 ^ lane_bit k) (lane_up k t hk h z).0 ∙ ap (at w) (omega (arith, (lane_up k t hk h z).1, place_low k t hk h z)))
          (λ z. high_set t h z ∙ hb t h ∙ ap (at w) (omega (arith, (lane_down k t hk h z).1, place_high k t hk h z)))

      lower_symbol : bit (lane_bit k) t < 2 → digit 4 low t ≡ at w (i + place k t)
      lower_symbol l = by_bit (bit (lane_bit k) t) l
          (λ z. low_clear t h z ∙ ha t h ∙ ap (at w) (omega (arith, place_low k t hk h z)))
          (λ z. low_set t h z ∙ hb (t - 2 ^ lane_bit k) (omega arith) ∙ ap (at w) (omega (arith, place_high k t hk h z)))
