-- The soft answers as one number each, for the comparison with Rust.
use Rattle.std.specs.Prelude.{ℕ, ◌+◌, cond, List, [], ◌∷◌, eqb, length, Float}
use Rattle.soft_theory.specs.Complex.{Complex}
use Rattle.soft_theory.specs.Decision.{Decision, sure, unsure, refused}

-- the refusal number, 100 + symbol for sure, 104 for unsure
unfoldable pub vote_number : Decision Float → ℕ
vote_number (sure s z) = 100 + s
vote_number (unsure z) = 104
vote_number (refused n) = n

-- a slice that both sums are put into: it has them where it is two long, else it is as it was
unfoldable pub with_sums : Complex Float → List Float → List Float
with_sums z l = cond (eqb (length l) 2) (z.re ∷ z.im ∷ []) l

-- the slice of sums after a vote
unfoldable pub sums_after : Decision Float → List Float → List Float
sums_after (sure s z) l = with_sums z l
sums_after (unsure z) l = with_sums z l
sums_after (refused n) l = l
