-- What the winners of a word's votes are.
use Rattle.std.specs.Prelude.{ℕ, zero, suc, ◌-◌, ◌^◌, ◌≤◌, ◌<◌, min, ◌≡◌, List, length, true}
use Rattle.code_theory.specs.Sum.{at}
use Rattle.code_theory.specs.Question.{is_alphabet}
use Rattle.code_theory.specs.Near as near
use Rattle.code_theory.specs.Vote.{count, votes}
use Rattle.code_theory.specs.Internal.{Winners}
use Rattle.code_theory.specs.Margin as lead
use Rattle.code_theory.specs.Code.{Below}
use Rattle.decode_long_tally.specs.Internal.{difference, Tallied}
use Rattle.swar_lanes.specs.Internal.{Packed}
use Rattle.decode_long_winner.specs.Internal.{Leads}

-- the least of b and of f 0 to f (n - 1)
unfoldable pub least_of : ℕ → (ℕ → ℕ) → ℕ → ℕ
least_of zero f b = b
least_of (suc n) f b = min (least_of n f b) (f n)

-- the lead of coefficient k of the message s
unfoldable pub lead_of : ℕ → ℕ → List ℕ → List ℕ → ℕ → ℕ
lead_of q m w s k = lead.lead q (at s (suc k)) (votes q m k (at w))

-- s has the constant 0 and the winners of the first k coefficients, and least is their least lead
pub record FirstWinners (q m : ℕ) (w s : List ℕ) (k least : ℕ) : Type 0 where
  pub size : length s ≡ 9
  pub zeroth : at s 0 ≡ 0
  pub below : (x : ℕ) → x < k → at s (suc x) < q
  pub wins : (x : ℕ) → x < k → (v : ℕ) → v < q → votes q m x (at w) v ≤ votes q m x (at w) (at s (suc x))
  pub lowest : least ≡ least_of k (lead_of q m w s) 256

-- the same for any word whose tallies are t
abbrev pub FirstWinnersOf : ℕ → ℕ → List ℕ → List ℕ → ℕ → ℕ → Type 0
FirstWinnersOf q m t s k least = (w : List ℕ) → Tallied q m w t m → FirstWinners q m w s k least

-- sixteen numbers, all 0
pub record Empty (x : List ℕ) : Type 0 where
  pub size : length x ≡ 16
  pub none : (j : ℕ) → at x j ≡ 0

-- the code of a long word, at the front of a buffer
pub record LongCode (q m : ℕ) (c : List ℕ) : Type 0 where
  pub alphabet : is_alphabet q ≡ true
  pub low : 5 ≤ m
  pub high : m ≤ 8
  pub size : length c ≡ 256
  pub below : (i : ℕ) → i < 2 ^ m → at c i < q

-- symbol is the most frequent difference between the word in x and the code c
abbrev pub LongConstant : ℕ → ℕ → List ℕ → List ℕ → ℕ → ℕ → ℕ → Type 0
LongConstant q m c x symbol votes next = (w : List ℕ) → Packed (2 ^ (m - 4)) w x → Leads q (count (2 ^ m) (λ i. 0) (difference q w c)) symbol votes next

-- the first m + 1 places of s win all votes of w; wrong and margin are theirs
pub record Winning (q m : ℕ) (w s : List ℕ) (wrong margin : ℕ) : Type 0 where
  pub size : length s ≡ 9
  pub below : Below q m (at s)
  pub wins : Winners q m (at s) (at w)
  pub distance : wrong ≡ near.distance q m (at s) (at w)
  pub least : margin ≡ lead.margin q m (at s) (at w)
