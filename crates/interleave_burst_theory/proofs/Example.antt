-- The theorem is about something: a group of two words for q = 2 and m = 3, with two adjacent symbols altered, one in each word. Assumes
-- nothing.
use Prim.Native.Nat.{ℕ, zero, suc}
use mathlib.Core.Path.{◌≡◌, refl, ap, sym, subst}
use mathlib.Core.List.{List, [], ◌∷◌}
use mathlib.Core.Option.{some-injective, none-ne-some}
use native.Mathlib.Omega.{arith}
use Rattle.code_theory.specs.Sum.{sum, every, tabulate, at}
use Rattle.code_theory.specs.Index.{bit}
use Rattle.code_theory.specs.Modular.{differ}
use Rattle.code_theory.specs.Code.{linear, symbol_at, codeword, Symbols}
use Rattle.code_theory.specs.Question.{all_below}
use Rattle.code_theory.proofs.QuestionLaws.{symbols}
use Rattle.interleave_theory.specs.Place.{across, transposed}
use Rattle.interleave_burst_theory.specs.Burst.{joined, OneRun, altered_in, words_of, sent_group, Burst}
use Rattle.interleave_burst_theory.proofs.RunLaws.{run_tested}
use Rattle.interleave_burst_theory.proofs.JoinLaws.{Words}

abbrev pub messages : List (List ℕ)
messages = (1 ∷ 1 ∷ 0 ∷ 0 ∷ []) ∷ (0 ∷ 0 ∷ 1 ∷ 1 ∷ []) ∷ []

-- their words are 1 0 1 0 1 0 1 0 and 0 0 1 1 1 1 0 0; the group has a symbol of the first, then one of the second
abbrev pub sent : List ℕ
sent = 1 ∷ 0 ∷ 0 ∷ 0 ∷ 1 ∷ 1 ∷ 0 ∷ 1 ∷ 1 ∷ 1 ∷ 0 ∷ 1 ∷ 1 ∷ 0 ∷ 0 ∷ 0 ∷ []

pub group : sent_group 2 3 2 messages ≡ sent
unfolding sent_group words_of joined transposed across codeword tabulate symbol_at linear sum bit
group = refl

-- the run: symbol 1 of the second word and symbol 2 of the first
abbrev pub arrived : List ℕ
arrived = 1 ∷ 0 ∷ 0 ∷ 1 ∷ 0 ∷ 1 ∷ 0 ∷ 1 ∷ 1 ∷ 1 ∷ 0 ∷ 1 ∷ 1 ∷ 0 ∷ 0 ∷ 0 ∷ []

all_symbols : Words 2 4 messages
unfolding all_below
all_symbols zero message e = subst (Symbols 2 4) (some-injective (1 ∷ 1 ∷ 0 ∷ 0 ∷ []) message e) (symbols 2 4 _ refl refl)
all_symbols (suc zero) message e = subst (Symbols 2 4) (some-injective (0 ∷ 0 ∷ 1 ∷ 1 ∷ []) message e) (symbols 2 4 _ refl refl)
all_symbols (suc (suc w)) message e = absurd (none-ne-some message e)

pub burst : Burst 2 3 2 3 2 messages arrived
unfolding every
burst = record {
  size = refl;
  symbols = all_symbols;
  short = omega arith;
  run = subst (λ x. OneRun 16 3 2 (at x) (at arrived)) (sym group) (run_tested 16 3 2 (at sent) (at arrived) refl refl);
}

-- one symbol of each word is altered, as many as the theorem allows
pub each_altered : (altered_in 8 2 0 (at (sent_group 2 3 2 messages)) (at arrived) ≡ 1) × (altered_in 8 2 1 (at (sent_group 2 3 2 messages)) (at arrived) ≡ 1)
unfolding altered_in sum differ
each_altered = (ap (λ x. altered_in 8 2 0 (at x) (at arrived)) group, ap (λ x. altered_in 8 2 1 (at x) (at arrived)) group)
