-- The steps of the code that copies the message and writes its word. Assumes nothing.
use Prim.Native.Nat.{ℕ, ◌≤◌, ◌<◌}
use mathlib.Core.Path.{◌≡◌, ◌∙◌}
use mathlib.Core.List.{List}
use native.Mathlib.Omega.{arith}
use lib.ListN.{length, set}
use Rattle.code_theory.specs.Sum.{at}
use Rattle.code_theory.specs.Code.{codeword}
use Rattle.code_theory.proofs.CodeLaws.{symbol_at_ext, codeword_is}
use Rattle.code_theory.proofs.QuestionLaws.{variables_bounds}
use Rattle.code_theory.proofs.TurnLaws.{constant_set}
use Rattle.encode_codeword.specs.Internal.{Fits, Written}
use Rattle.session_sender.specs.Internal.{Placed, Sendable}

pub message_fits : (q m constant : ℕ) (message word : List ℕ) → Sendable q m constant message word → (0 < length message) × (length message ≤ 9)
message_fits q m constant message word s = (omega (arith, s.symbols.size), omega (arith, s.symbols.size, variables_bounds m s.variables))

-- the writer of codewords is given the copy, and leaves the word of the message with the constant
module _ (q m constant placed : ℕ) (message word w₀ w : List ℕ) (s : Sendable q m constant message word) (p : Placed placed message w₀ w) where
  pub copy_fits : placed < q → length w₀ ≡ 9 → Fits q m w word
  copy_fits b e = record {
    alphabet = s.alphabet;
    low = (variables_bounds m s.variables).0;
    high = (variables_bounds m s.variables).1;
    size = omega (arith, p.size, variables_bounds m s.variables);
    below = λ k l. rw (p.each k (omega (arith, s.symbols.size))) ((constant_set q m placed message b s.symbols).below k l);
    room = omega (arith, s.size);
  }

  pub copy_written : (v : List ℕ) → Written q m w word v → v ≡ codeword q m (set message 0 placed)
  copy_written v t =
      codeword_is q m (set message 0 placed) v (t.size ∙ s.size)
      (λ i l. t.coded.each i l ∙ symbol_at_ext q m (at w) (at (set message 0 placed)) (λ k b. p.each k (omega (arith, s.symbols.size))) i)
