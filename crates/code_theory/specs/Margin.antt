-- By how much the symbols of a message win their votes (docs/REQUIREMENTS.md: Margin).
use Rattle.std.specs.Prelude.{ℕ, zero, suc, ◌-◌, min, max}
use Rattle.code_theory.specs.Index.{if_clear}
use Rattle.code_theory.specs.Modular.{same}
use Rattle.code_theory.specs.Vote.{tally}

-- the most that f gives for any value below q other than v
unfoldable pub most_other : ℕ → ℕ → (ℕ → ℕ) → ℕ
most_other zero v f = 0
most_other (suc u) v f = max (most_other u v f) (if_clear (same u v) (f u))

-- the votes f v for v minus the most for any one other value
unfoldable pub lead : ℕ → ℕ → (ℕ → ℕ) → ℕ
lead q v f = f v - most_other q v f

-- the least of f 0 to f n
unfoldable pub least : ℕ → (ℕ → ℕ) → ℕ
least zero f = f 0
least (suc n) f = min (least n f) (f (suc n))

-- the least lead of the m + 1 symbols of the message s (docs/REQUIREMENTS.md: margin)
unfoldable pub margin : ℕ → ℕ → (ℕ → ℕ) → (ℕ → ℕ) → ℕ
margin q m s y = least m (λ k. lead q (s k) (tally q m s y k))
