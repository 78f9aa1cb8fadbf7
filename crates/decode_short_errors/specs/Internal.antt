-- The symbols of a word of four coefficients.
use Rattle.std.specs.Prelude.{ℕ, ◌+◌, ◌*◌, ◌%◌, ◌<◌, List}
use Rattle.code_theory.specs.Sum.{at}
use Rattle.code_theory.specs.Index.{bit}

-- symbol i of the word of the first four coefficients of the message d, with the constant 0
unfoldable pub plain : ℕ → List ℕ → ℕ → ℕ
plain q d i = (at d 1 * bit 0 i + at d 2 * bit 1 i + at d 3 * bit 2 i + at d 4 * bit 3 i) % q

-- the constant and the five coefficients of the message d are below q
abbrev pub SymbolsBelow : ℕ → List ℕ → Type 0
SymbolsBelow q d = (k : ℕ) → k < 6 → at d k < q
