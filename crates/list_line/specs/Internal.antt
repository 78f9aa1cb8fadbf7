-- What the code of a line asks for.
use Rattle.std.specs.Prelude.{ℕ, ◌+◌, ◌≤◌, ◌≡◌, List, length}
use Rattle.session_receiver.specs.declared.Receiver.{Receiver}

-- what a line is listed with: a session of q = 4, m = 4, and 64 places left, which no line of output needs more of
pub record Ready (s : Receiver) (out : List ℕ) (at : ℕ) : Type 0 where
  pub alphabet : s.q ≡ 4
  pub variables : s.m ≡ 4
  pub room : at + 64 ≤ length out
