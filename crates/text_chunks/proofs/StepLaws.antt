-- What a byte does, and the end of the input. Assumes nothing.
use Prim.Native.Nat.{ℕ, ◌<◌}
use mathlib.Core.Path.{◌≡◌, refl}
use mathlib.Core.Bool.{true, false}
use mathlib.Core.List.{List, [], ◌∷◌, ◌++◌}
use native.Mathlib.Omega.{arith}
use borrow.Author.Tests.{eq-eqb, ne_eqb}
use lib.ListN.{length}
use Rattle.text_lines.specs.Line.{read_line}
use Rattle.text_chunks.specs.Chunks.{Reader, Progress, longer, ended, step, step_text, last_text, end_text}

module _ {S : Type 0} (R : Reader S) where
  -- a newline ends the line, any other byte is kept
  pub step_end : (p : Progress S) (b : ℕ) → p.over ≡ false → b ≡ 10 → step R p b ≡ ended R p
  unfolding step
  step_end p b o e = rw (o, eq-eqb b 10 e)

  pub text_end : (p : Progress S) (b : ℕ) → p.over ≡ false → b ≡ 10 → step_text R p b ≡ R.text p.state (read_line p.part)
  unfolding step_text
  text_end p b o e = rw (o, eq-eqb b 10 e)

  pub step_keep : (p : Progress S) (b : ℕ) → p.over ≡ false → (b ≡ 10 → ⊥) → step R p b ≡ longer p b
  unfolding step
  step_keep p b o d = rw (o, ne_eqb b 10 d)

  pub text_keep : (p : Progress S) (b : ℕ) → p.over ≡ false → (b ≡ 10 → ⊥) → step_text R p b ≡ []
  unfolding step_text
  text_keep p b o d = rw (o, ne_eqb b 10 d)

  -- the end of an input
  pub last_some : (s : S) (part : List ℕ) → 0 < length part → last_text R s part ≡ R.text s (read_line part) ++ R.final (R.next s (read_line part))
  unfolding last_text
  last_some s [] h = absurd (omega arith)
  last_some s (b ∷ part) h = refl

  pub end_over : (p : Progress S) → p.over ≡ true → end_text R p ≡ R.final p.state
  unfolding end_text
  end_over p e = rw e

  pub end_last : (p : Progress S) → p.over ≡ false → end_text R p ≡ last_text R p.state p.part
  unfolding end_text
  end_last p e = rw e
