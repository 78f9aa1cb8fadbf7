-- Text as lists of bytes, and what a buffer holds once text is put into it.
use Rattle.std.specs.Prelude.{ℕ, zero, suc, ◌+◌, ◌/◌, ◌%◌, cond, List, [], ◌∷◌, ◌++◌, ltb, length, take, drop}
use Prim.Native.Char.{code}
use Prim.Native.String as S

-- the bytes of a text in ASCII
unfoldable pub bytes : S.String → List ℕ
bytes S.[] = []
bytes (S.◌∷◌ c s) = code c ∷ bytes s

-- the decimal digits of n, in at most this many places
unfoldable pub decimal_within : ℕ → ℕ → List ℕ
decimal_within zero n = []
decimal_within (suc places) n = cond (ltb n 10) ((48 + n) ∷ []) (decimal_within places (n / 10) ++ ((48 + n % 10) ∷ []))

-- n in decimal, with no zero in front; n has at most n + 1 digits
unfoldable pub decimal : ℕ → List ℕ
decimal n = decimal_within (suc n) n

-- words separated by one space, and the newline
unfoldable pub spaced : List (List ℕ) → List ℕ
spaced [] = 10 ∷ []
spaced (w ∷ []) = w ++ (10 ∷ [])
spaced (w ∷ v ∷ ws) = w ++ (32 ∷ spaced (v ∷ ws))

-- the buffer with the text in it from place at on
unfoldable pub put : List ℕ → ℕ → List ℕ → List ℕ
put buffer at text = take at buffer ++ (text ++ drop (at + length text) buffer)
