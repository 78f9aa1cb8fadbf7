-- What is kept of a line that has begun.
use Rattle.std.specs.Prelude.{ℕ, List, take}

-- a lent slice, and how many of its bytes are kept
pub record Kept : Type 0 where
  pub bytes : List ℕ
  pub len : ℕ

-- the bytes that are kept
abbrev pub kept_bytes : Kept → List ℕ
kept_bytes line = take line.len line.bytes
