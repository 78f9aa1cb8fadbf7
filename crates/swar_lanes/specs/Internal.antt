-- Symbols in the four-bit lanes of numbers, and the votes between them.
use Rattle.std.specs.Prelude.{ℕ, ◌+◌, ◌*◌, ◌-◌, ◌/◌, ◌%◌, ◌≤◌, ◌<◌, zero, suc, ◌^◌, ◌≡◌, List, true, cond, length, ltb}
use Rattle.code_theory.specs.Sum.{at}
use Rattle.code_theory.specs.Index.{bit}
use Rattle.code_theory.specs.Internal.{nth_clear}
use Rattle.code_theory.specs.Modular.{sub_mod}
use Rattle.code_theory.specs.Vote.{vote}
use Rattle.code_theory.specs.Question.{is_alphabet}
use Rattle.swar_theory.specs.Internal.{digit}

-- ---- symbols in lanes
-- the place of lane t among the sixteen of a number: the even lanes hold the first eight places, the odd ones the second
unfoldable pub offset : ℕ → ℕ
offset t = 8 * (t % 2) + t / 2

-- the lane of place i among the sixteen
unfoldable pub lane_of : ℕ → ℕ
lane_of i = 2 * (i % 8) + i / 8

-- the sixteen lanes of d are f 0 to f 15
abbrev pub Lanes : ℕ → (ℕ → ℕ) → Type 0
Lanes d f = (t : ℕ) → t < 16 → digit 4 d t ≡ f t

-- place i of the sixteen that f holds
unfoldable pub place_of : ℕ → ℕ → ℕ
place_of f i = digit 4 f (lane_of i)

-- place i of the 32 that f and h hold
unfoldable pub places_of : ℕ → ℕ → ℕ → ℕ
places_of f h i = cond (ltb i 16) (place_of f i) (place_of h (i - 16))

-- every lane of x is below q
abbrev pub LanesBelow : ℕ → ℕ → Type 0
LanesBelow q x = (t : ℕ) → t < 16 → digit 4 x t < q

-- every lane of the sixteen numbers of x is below q
abbrev pub Within : ℕ → List ℕ → Type 0
Within q x = (j : ℕ) → j < 16 → LanesBelow q (at x j)

-- every symbol of w fits a lane
abbrev pub Low : List ℕ → Type 0
Low w = (i : ℕ) → i < length w → at w i < 16

-- the lanes of x are the symbols of w from place i on
abbrev pub Held : List ℕ → ℕ → ℕ → Type 0
Held w i x = Lanes x (λ t. at w (i + offset t))

-- the first n numbers of x hold the first 16 n symbols of w
abbrev pub Packed : ℕ → List ℕ → List ℕ → Type 0
Packed n w x = (j : ℕ) → j < n → Held w (16 * j) (at x j)

-- the lanes of r whose bit l is 0 are full, and no others
abbrev pub ClearLanes : ℕ → ℕ → Type 0
ClearLanes l r = Lanes r (λ t. 15 * (1 - bit l t))

-- r has the lanes of u where bit l of the lane's number is 0, and those of v where it is 1
pub record Blend (l u v r : ℕ) : Type 0 where
  pub low : (t : ℕ) → t < 16 → bit l t ≡ 0 → digit 4 r t ≡ digit 4 u t
  pub high : (t : ℕ) → t < 16 → bit l t ≡ 1 → digit 4 r t ≡ digit 4 v t

-- the first n numbers of x hold the first 16 n symbols of w, and the others are as in x₀
pub record Loaded (w x₀ x : List ℕ) (n : ℕ) : Type 0 where
  pub size : length x ≡ length x₀
  pub packed : Packed n w x
  pub rest : (j : ℕ) → n ≤ j → at x j ≡ at x₀ j

-- ---- votes in lanes
-- the bit of a lane's number that is bit k of its place, k below 4
unfoldable pub lane_bit : ℕ → ℕ
lane_bit k = suc k % 4

-- the lanes of d whose bit lane_bit k is 0 are the votes for coefficient k of the places that x holds, and the others are 0
pub record VotesIn (q k x d : ℕ) : Type 0 where
  pub votes : (t : ℕ) → t < 16 → bit (lane_bit k) t ≡ 0 → digit 4 d t ≡ sub_mod q (digit 4 x (2 ^ lane_bit k + t)) (digit 4 x t)
  pub others : (t : ℕ) → t < 16 → bit (lane_bit k) t ≡ 1 → digit 4 d t ≡ 0

-- x where the bit b is 0, y where it is 1
unfoldable pub either : ℕ → ℕ → ℕ → ℕ
either zero x y = x
either (suc b) x y = y

-- the place, among 32, of the vote for coefficient k in lane t: one of the first sixteen where the bit of the lane is 0, else of the second
unfoldable pub place : ℕ → ℕ → ℕ
place k t = either (bit (lane_bit k) t) (offset t) (16 + offset (t - 2 ^ lane_bit k))

-- the lanes of r are the votes for coefficient k of the 32 places that a and b hold
abbrev pub VotesWithin : ℕ → ℕ → ℕ → ℕ → ℕ → Type 0
VotesWithin q k a b r = (w : List ℕ) (i : ℕ) → Held w i a → Held w (i + 16) b → Lanes r (λ t. vote q k (at w) (i + place k t))

-- the place of the vote for coefficient k in lane t of ballot j
unfoldable pub spot : ℕ → ℕ → ℕ → ℕ
spot k j t = cond (ltb k 4) (32 * j + place k t) (16 * nth_clear (k - 4) j + offset t)

-- what `ballot` requires: the numbers that ballot j for coefficient k reads are in x
pub record Reach (q k j : ℕ) (x : List ℕ) : Type 0 where
  pub alphabet : is_alphabet q ≡ true
  pub size : length x ≡ 16
  pub symbols : Within q x
  pub few : j < 8
  pub coefficient : k < 8
  pub partner : 4 ≤ k → nth_clear (k - 4) j + 2 ^ (k - 4) < 16

-- the lanes of r are the votes of ballot j for coefficient k of any word whose symbols its numbers hold
abbrev pub BallotOf : ℕ → ℕ → ℕ → List ℕ → ℕ → Type 0
BallotOf q k j x r =
    (w : List ℕ) (n : ℕ) → Packed n w x → (k < 4 → 2 * j + 1 < n) → (4 ≤ k → nth_clear (k - 4) j + 2 ^ (k - 4) < n) → Lanes r (λ t. vote q k (at w) (spot k j t))
