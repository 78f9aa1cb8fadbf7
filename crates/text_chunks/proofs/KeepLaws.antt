-- What is kept of a line: byte by byte, and whole where it is short. Assumes nothing.
use Prim.Native.Nat.{ℕ, zero, suc, ◌+◌, ◌-◌, ◌≤◌, ◌<◌}
use mathlib.Core.Path.{◌≡◌, refl, ap, sym, ◌∙◌}
use mathlib.Core.Bool.{cond}
use mathlib.Core.List.{List, [], ◌∷◌, ◌++◌, append_assoc, append-nil}
use native.Mathlib.Omega.{arith}
use borrow.Author.Tests.{lt-ltb, le-ltb}
use lib.ListN.{length, take, length-append}
use lib.Seq.{take_all}
use Rattle.code_theory.specs.Sum.{at}
use Rattle.text_chunks.specs.Chunks.{keep}
use Rattle.text_chunks.specs.Internal.{keep_all}

-- a byte that is kept, and one for which there is no room
pub keep_room : (part : List ℕ) (b : ℕ) → length part < 17 → keep part b ≡ part ++ (b ∷ [])
unfolding keep
keep_room part b h = ap (λ t. cond t (part ++ (b ∷ [])) part) (lt-ltb (length part) 17 h)

-- with 17 kept none is kept any more
keeps_full : (part bytes : List ℕ) → length part ≡ 17 → keep_all part bytes ≡ part
unfolding keep_all keep
keeps_full part [] h = refl
keeps_full part (b ∷ bytes) h = rw (le-ltb (length part) 17 (omega arith)) (keeps_full part bytes h)

-- as many bytes are kept as there is room for
pub keeps_first : (part bytes : List ℕ) (n : ℕ) → length part + n ≡ 17 → keep_all part bytes ≡ part ++ take n bytes
unfolding keep_all
keeps_first part bytes zero h = keeps_full part bytes (omega arith) ∙ sym (append-nil part)
keeps_first part [] (suc n) h = sym (append-nil part)
keeps_first part (b ∷ bytes) (suc n) h =
    ap (λ l. keep_all l bytes) (keep_room part b (omega arith))
    ∙ keeps_first (part ++ (b ∷ [])) bytes n (omega (arith, length-append part (b ∷ [])))
    ∙ append_assoc part (b ∷ []) (take n bytes)

-- while there is room that is all of them
pub keeps_whole : (part bytes : List ℕ) → length part + length bytes ≤ 17 → keep_all part bytes ≡ part ++ bytes
keeps_whole part bytes h = keeps_first part bytes (17 - length part) (omega arith) ∙ ap (λ l. part ++ l) (take_all (17 - length part) bytes (omega arith))
