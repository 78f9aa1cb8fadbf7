-- The decision for one symbol by its two sums (docs/REQUIREMENTS.md: Soft decision; the tangent 2/3 of Feldman, Abou-Faycal and Frigo).
use Rattle.std.specs.Prelude.{ℕ, Bool, true, false, cond, ◌&&◌}
use Rattle.soft_theory.specs.Numbers.{Numbers}
use Rattle.soft_theory.specs.Complex.{Complex}

-- the answer of a vote: a symbol and both sums, both sums, or the number of the question that fails
pub data Decision (A : Type 0) : Type 0 where
  sure : ℕ → Complex A → Decision A
  unsure : Complex A → Decision A
  refused : ℕ → Decision A

-- x without its sign
unfoldable pub magnitude : {A : Type 0} → Numbers A → A → A
magnitude N x = cond (N.lt x (N.number 0)) (N.neg x) x

-- whether a larger magnitude l and a smaller one s are sure: l > 0 and 3 s at most 2 l
unfoldable pub is_decisive : {A : Type 0} → Numbers A → A → A → Bool
is_decisive N l s = N.lt (N.number 0) l && N.le (N.mul (N.number 3) s) (N.mul (N.number 2) l)

-- by the sum l of the larger magnitude, with a for a positive one and b for a negative one
unfoldable pub decide_by : {A : Type 0} → Numbers A → A → A → ℕ → ℕ → Complex A → Decision A
decide_by N l s a b z = cond (is_decisive N (magnitude N l) (magnitude N s)) (sure (cond (N.lt (N.number 0) l) a b) z) (unsure z)

-- the decision by the sums z
unfoldable pub decide : {A : Type 0} → Numbers A → Complex A → Decision A
decide N z = cond (N.lt (magnitude N z.re) (magnitude N z.im)) (decide_by N z.im z.re 1 3 z) (decide_by N z.re z.im 0 2 z)

-- whether a decision is sure
unfoldable pub is_sure : {A : Type 0} → Decision A → Bool
is_sure (sure s z) = true
is_sure (unsure z) = false
is_sure (refused n) = false

-- the symbol of a sure decision
unfoldable pub symbol : {A : Type 0} → Decision A → ℕ
symbol (sure s z) = s
symbol (unsure z) = 0
symbol (refused n) = 0
