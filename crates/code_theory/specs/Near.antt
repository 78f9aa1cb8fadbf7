-- How far a received word y is from the word of a message s (docs/REQUIREMENTS.md: Near).
use Rattle.std.specs.Prelude.{ℕ, ◌-◌, ◌*◌, ◌^◌, ◌<◌, min}
use Rattle.code_theory.specs.Sum.{sum}
use Rattle.code_theory.specs.Modular.{sub_mod, differ}
use Rattle.code_theory.specs.Code.{symbol_at}

-- in how many places they differ (docs/REQUIREMENTS.md: Terms, wrong)
unfoldable pub distance : ℕ → ℕ → (ℕ → ℕ) → (ℕ → ℕ) → ℕ
distance q m s y = sum (2 ^ m) (λ i. differ (symbol_at q m s i) (y i))

-- fewer than a quarter of the places differ (docs/REQUIREMENTS.md: near)
abbrev pub Near : ℕ → ℕ → (ℕ → ℕ) → (ℕ → ℕ) → Type 0
Near q m s y = 4 * distance q m s y < 2 ^ m

-- the Lee weight of what they differ by (HPL-98-195, section 2.2)
unfoldable pub lee_distance : ℕ → ℕ → (ℕ → ℕ) → (ℕ → ℕ) → ℕ
lee_distance q m s y = sum (2 ^ m) (λ i. min (sub_mod q (symbol_at q m s i) (y i)) (q - sub_mod q (symbol_at q m s i) (y i)))
