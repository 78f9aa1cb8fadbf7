-- What the steps of a send ask for and leave.
use Rattle.std.specs.Prelude.{ℕ, suc, ◌^◌, ◌≤◌, ◌<◌, ◌≡◌, true, List, length, set}
use Rattle.code_theory.specs.Sum.{at}
use Rattle.code_theory.specs.Code.{Symbols}
use Rattle.code_theory.specs.Question.{is_alphabet, is_variables}

-- w' is w with the message, its place 0 replaced by the constant, written over its front
pub record Placed (constant : ℕ) (message w w' : List ℕ) : Type 0 where
  pub size : length w' ≡ length w
  pub each : (k : ℕ) → k < length message → at w' k ≡ at (set message 0 constant) k
  pub rest : (k : ℕ) → length message ≤ k → at w' k ≡ at w k

-- the word of the message with this constant fits the word slice
pub record Sendable (q m constant : ℕ) (message word : List ℕ) : Type 0 where
  pub alphabet : is_alphabet q ≡ true
  pub variables : is_variables m ≡ true
  pub below : constant < q
  pub symbols : Symbols q (suc m) message
  pub size : length word ≡ 2 ^ m
