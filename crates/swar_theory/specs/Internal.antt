-- The digits of a number to the base 2 ^ b: the values of its lanes of b bits.
use Rattle.std.specs.Prelude.{ℕ, ◌*◌, ◌/◌, ◌%◌, ◌^◌}
use Rattle.code_theory.specs.Sum.{sum}

-- digit l of x, digit 0 the lowest
unfoldable pub digit : ℕ → ℕ → ℕ → ℕ
digit b x l = x / 2 ^ (b * l) % 2 ^ b

-- the number with the digits f 0 to f (n - 1)
unfoldable pub number : ℕ → ℕ → (ℕ → ℕ) → ℕ
number b n f = sum n (λ l. f l * 2 ^ (b * l))
