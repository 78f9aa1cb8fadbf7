-- Masks of lanes, and how many lanes have a value.
use Rattle.std.specs.Prelude.{ℕ, ◌*◌, ◌≤◌, ◌<◌}
use Rattle.code_theory.specs.Sum.{sum}
use Rattle.code_theory.specs.Modular.{same}
use Rattle.swar_theory.specs.Internal.{digit}

-- every lane of c is 0 or 1: c marks the lanes that are 1
abbrev pub Mask : ℕ → Type 0
Mask c = (t : ℕ) → t < 16 → digit 4 c t ≤ 1

-- how many of the lanes that c marks are v in x
unfoldable pub marked_equal : ℕ → ℕ → ℕ → ℕ
marked_equal x v c = sum 16 (λ t. digit 4 c t * same (digit 4 x t) v)

-- how many of all sixteen lanes of x are v
unfoldable pub lanes_equal : ℕ → ℕ → ℕ
lanes_equal x v = sum 16 (λ t. same (digit 4 x t) v)
