-- The votes of the errors in lanes, and the lead among them.
use Rattle.std.specs.Prelude.{ℕ, ◌+◌, ◌*◌, ◌-◌, ◌≤◌, ◌<◌, ◌≡◌, true}
use Rattle.code_theory.specs.Vote.{votes}
use Rattle.code_theory.specs.Question.{is_alphabet}
use Rattle.code_theory.specs.Internal.{sum_from1, max_from1}
use Rattle.swar_lanes.specs.Internal.{LanesBelow, place_of}

-- how many of the votes for coefficient k, below 4, of the places in both numbers are v
unfoldable pub both_votes : ℕ → ℕ → ℕ → ℕ → ℕ → ℕ
both_votes q k f h v = votes q 4 k (place_of f) v + votes q 4 k (place_of h) v

-- the lead of 0 among `half` votes, where g v of them are for each value v from 1 to q - 1
unfoldable pub lead_by : ℕ → ℕ → (ℕ → ℕ) → ℕ
lead_by q half g = half - sum_from1 (q - 1) g - max_from1 (q - 1) g

-- f and h hold symbols, and at most half of the votes for each of the coefficients 0 to 3 are wrong
pub record Errors (q half f h : ℕ) : Type 0 where
  pub alphabet : is_alphabet q ≡ true
  pub first : LanesBelow q f
  pub second : LanesBelow q h
  pub size : half ≤ 16
  pub few : (k : ℕ) → k < 4 → 2 * sum_from1 (q - 1) (both_votes q k f h) ≤ half
