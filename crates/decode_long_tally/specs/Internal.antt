-- A tally, eight counters of eight bits in one number, and how the votes in lanes are counted in it.
use Rattle.std.specs.Prelude.{ℕ, ◌^◌, ◌<◌, ◌+◌, ◌*◌, ◌-◌, ◌≤◌, ◌≡◌, List, true, length}
use Rattle.code_theory.specs.Sum.{at}
use Rattle.code_theory.specs.Modular.{sub_mod}
use Rattle.code_theory.specs.Vote.{votes, count}
use Rattle.code_theory.specs.Question.{is_alphabet}
use Rattle.swar_theory.specs.Internal.{digit}
use Rattle.swar_lanes.specs.Internal.{LanesBelow, Within, Held, Packed}

-- ---- the counters
-- the counters of t are f 0 to f (q - 1)
abbrev pub Counts : ℕ → ℕ → (ℕ → ℕ) → Type 0
Counts q t f = (v : ℕ) → v < q → digit 8 t v ≡ f v

-- u is the table of the counters' units: a one in digit v
abbrev pub Units : List ℕ → Type 0
Units u = (v : ℕ) → v < 8 → at u v ≡ 256 ^ v

-- t has the tallies of the first n coefficients of w
pub record Tallied (q m : ℕ) (w t : List ℕ) (n : ℕ) : Type 0 where
  pub size : length t ≡ 8
  pub each : (k : ℕ) → k < n → Counts q (at t k) (votes q m k (at w))

-- ---- the table of pairs of units: the entry of the byte a + 16 b
-- the rows below q are filled
pub record Pairs (q : ℕ) (u : List ℕ) : Type 0 where
  pub size : length u ≡ 128
  pub each : (a b : ℕ) → a < 8 → b < q → at u (a + 16 * b) ≡ 256 ^ a + 256 ^ b

-- the first n entries of row b are filled, and the rows before it are as in u
pub record Row (b : ℕ) (u v : List ℕ) (n : ℕ) : Type 0 where
  pub size : length v ≡ 128
  pub each : (a : ℕ) → a < n → at v (a + 16 * b) ≡ 256 ^ a + 256 ^ b
  pub below : (i : ℕ) → i < 16 * b → at v i ≡ at u i

-- u has the entry of any two lanes of d
pub record Listed (u : List ℕ) (d : ℕ) : Type 0 where
  pub values : LanesBelow 8 d
  pub each : (s t : ℕ) → s < 16 → t < 16 → at u (digit 4 d s + 16 * digit 4 d t) ≡ 256 ^ digit 4 d s + 256 ^ digit 4 d t

-- ---- what is counted from lanes
-- the symbols of a long word in the lanes of sixteen numbers: what the count of its votes asks for
pub record LongLanes (q m : ℕ) (x : List ℕ) : Type 0 where
  pub alphabet : is_alphabet q ≡ true
  pub low : 5 ≤ m
  pub high : m ≤ 8
  pub size : length x ≡ 16
  pub symbols : Within q x

-- the tally r counts the votes for coefficient k of any word of 2 ^ m symbols that x holds
abbrev pub VotesOf : ℕ → ℕ → ℕ → List ℕ → ℕ → Type 0
VotesOf q m k x r = (w : List ℕ) → Packed (2 ^ (m - 4)) w x → Counts q r (votes q m k (at w))

-- t has the tallies of the first n coefficients of any such word
abbrev pub TalliesOf : ℕ → ℕ → List ℕ → List ℕ → ℕ → Type 0
TalliesOf q m x t n = (w : List ℕ) → Packed (2 ^ (m - 4)) w x → Tallied q m w t n

-- symbol i of w minus symbol i of c, modulo q
unfoldable pub difference : ℕ → List ℕ → List ℕ → ℕ → ℕ
difference q w c i = sub_mod q (at w i) (at c i)

-- every lane of the numbers of x is below q
abbrev pub EachBelow : ℕ → List ℕ → Type 0
EachBelow q x = (j : ℕ) → j < length x → LanesBelow q (at x j)

-- the numbers of x hold the symbols of w from number f on
abbrev pub PackedFrom : ℕ → List ℕ → List ℕ → Type 0
PackedFrom f w x = (j : ℕ) → j < length x → Held w (16 * (f + j)) (at x j)

-- the tally r counts the differences between the symbols of a word that the numbers of x hold, from whichever number f on, and those of
-- another that the numbers of y hold
abbrev pub DifferencesOf : ℕ → List ℕ → List ℕ → ℕ → Type 0
DifferencesOf q x y r =
    (w c : List ℕ) (f : ℕ) → PackedFrom f w x → PackedFrom f c y → Counts q r (count (length x * 16) (λ i. 0) (λ i. difference q w c (f * 16 + i)))
