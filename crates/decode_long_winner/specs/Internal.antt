-- The winner of a vote and the most votes of any other value.
use Rattle.std.specs.Prelude.{ℕ, ◌+◌, ◌<◌, ◌≤◌, min, max, ◌≡◌}
use Rattle.code_theory.specs.Margin.{most_other}
use Rattle.swar_theory.specs.Internal.{digit}

-- of the values below n, symbol has the most votes, and any other at most next, which one of them has
pub record Leads (n : ℕ) (f : ℕ → ℕ) (symbol votes next : ℕ) : Type 0 where
  pub inside : symbol < n
  pub own : votes ≡ f symbol
  pub top : (v : ℕ) → v < n → f v ≤ votes
  pub other : next ≡ most_other n symbol f

-- the winner so far after x votes for v: v leads where it has more than the leader
pub record Updates (symbol votes next v x symbol' votes' next' : ℕ) : Type 0 where
  pub wins : votes < x → symbol' ≡ v
  pub stays : x ≤ votes → symbol' ≡ symbol
  pub most : votes' ≡ max votes x
  pub other : next' ≡ max next (min votes x)

-- the votes for v that two tallies hold together
unfoldable pub together : ℕ → ℕ → ℕ → ℕ
together t u v = digit 8 t v + digit 8 u v
