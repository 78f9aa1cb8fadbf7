-- A slot or a miss that stands whole at the front of some bytes is the line that would be kept of them. Assumes nothing.
use Prim.Native.Nat.{ℕ, ◌≤◌}
use mathlib.Core.Path.{◌≡◌, ap, sym, ◌∙◌}
use mathlib.Core.Bool.{true}
use mathlib.Core.List.{List, []}
use native.Mathlib.Omega.{arith}
use lib.ListN.{length, take}
use lib.Seq.{length-take-le}
use Rattle.text_lines.specs.Line.{slot, miss, word_of, read_line}
use Rattle.text_lines.specs.Internal.{line_length, has_slot, has_miss}
use Rattle.text_lines.proofs.LineLaws.{reads_slot, reads_miss}
use Rattle.text_lines.proofs.EndingLaws.{slot_ends, miss_ends}
use Rattle.text_chunks.specs.Internal.{keep_all}
use Rattle.text_chunks.proofs.KeepLaws.{keeps_whole}

-- a short line of which nothing was kept before is kept whole
alone : (start bytes : List ℕ) (n : ℕ) → start ≡ [] → n ≤ 17 → n ≤ length bytes → line_length bytes ≡ n
    → keep_all start (take (line_length bytes) bytes) ≡ take n bytes
alone start bytes n k h g e =
    ap (λ l. keep_all l (take (line_length bytes) bytes)) k ∙ ap (λ i. keep_all [] (take i bytes)) e
    ∙ keeps_whole [] (take n bytes) (omega (arith, length-take-le n bytes g))

pub slot_line : (start bytes : List ℕ) → start ≡ [] → has_slot bytes ≡ true
    → read_line (keep_all start (take (line_length bytes) bytes)) ≡ slot (word_of (take 16 bytes))
slot_line start bytes k e =
    let f = slot_ends bytes e in
    ap read_line (alone start bytes 16 k (omega arith) (omega (arith, f.0)) f.1) ∙ reads_slot (take 16 bytes) f.2

pub miss_line : (start bytes : List ℕ) (n : ℕ) → start ≡ [] → n ≡ line_length bytes → has_miss n bytes ≡ true
    → read_line (keep_all start (take (line_length bytes) bytes)) ≡ miss
miss_line start bytes n k l e =
    let f = miss_ends n bytes l e in
    ap read_line (alone start bytes n k (omega (arith, f.1)) (omega (arith, f.0)) (sym l)) ∙ reads_miss (take n bytes) f.3
