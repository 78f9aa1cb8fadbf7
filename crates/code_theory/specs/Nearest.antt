-- What a received word reads as: the near message, by search over all messages (docs/REQUIREMENTS.md: The three demands, 2).
use Rattle.std.specs.Prelude.{ℕ, zero, suc, ◌*◌, ◌^◌, Bool, true, false, List, [], ◌∷◌, ◌++◌, map, ltb}
use Rattle.std.proofs.Math.Option.{Option, none, some}
use Rattle.code_theory.specs.Sum.{at}
use Rattle.code_theory.specs.Near.{distance}
use Rattle.code_theory.specs.Margin.{margin}

-- each list of ts with each symbol below n put in front
unfoldable pub prefixed : ℕ → List (List ℕ) → List (List ℕ)
prefixed zero ts = []
prefixed (suc n) ts = prefixed n ts ++ map (λ t. n ∷ t) ts

-- all q ^ l lists of l symbols below q
unfoldable pub messages : ℕ → ℕ → List (List ℕ)
messages q zero = [] ∷ []
messages q (suc l) = prefixed q (messages q l)

-- t where the test holds, else what the rest gives
unfoldable pub first_or : Bool → List ℕ → Option (List ℕ) → Option (List ℕ)
first_or true t rest = some t
first_or false t rest = rest

-- the first of ts that passes the test, or none
unfoldable pub find : (List ℕ → Bool) → List (List ℕ) → Option (List ℕ)
find passes [] = none
find passes (t ∷ ts) = first_or (passes t) t (find passes ts)

-- whether a search found a message
unfoldable pub is_found : Option (List ℕ) → Bool
is_found none = false
is_found (some t) = true

-- the message that a search found, the empty list where it found none
unfoldable pub or_empty : Option (List ℕ) → List ℕ
or_empty none = []
or_empty (some t) = t

-- whether the message t is near the word y
unfoldable pub is_near : ℕ → ℕ → List ℕ → List ℕ → Bool
is_near q m y t = ltb (4 * distance q m (at t) (at y)) (2 ^ m)

-- the near message of the word y, or none (docs/REQUIREMENTS.md: Terms, doubtful)
unfoldable pub nearest : ℕ → ℕ → List ℕ → Option (List ℕ)
nearest q m y = find (is_near q m y) (messages q (suc m))

-- whether some message is near
unfoldable pub is_readable : ℕ → ℕ → List ℕ → Bool
is_readable q m y = is_found (nearest q m y)

-- the near message where there is one
unfoldable pub near_message : ℕ → ℕ → List ℕ → List ℕ
near_message q m y = or_empty (nearest q m y)

-- its count of differing places, and its margin
unfoldable pub near_distance : ℕ → ℕ → List ℕ → ℕ
near_distance q m y = distance q m (at (near_message q m y)) (at y)

unfoldable pub near_margin : ℕ → ℕ → List ℕ → ℕ
near_margin q m y = margin q m (at (near_message q m y)) (at y)
