-- What a decision says of its symbol.
use Rattle.std.specs.Prelude.{ℕ, Option, Some, None, Float}
use Rattle.soft_theory.specs.Decision.{Decision, sure, unsure, refused}

-- the symbol where the decision is sure
unfoldable pub sure_symbol : Decision Float → Option ℕ
sure_symbol (sure s z) = Some s
sure_symbol (unsure z) = None
sure_symbol (refused n) = None
