-- `read` meets its contract: the winners settle the reading.
use Prim.Native.Nat.{ℕ, ◌+◌, ◌≤◌}
use mathlib.Core.Path.{◌≡◌, ap, sym, ◌∙◌}
use native.Mathlib.Omega.{arith}
use native.Mathlib.Numerals.{add-one}
use lib.ListN.{length, take}
use lib.Seq.{length-take-le}
use Rattle.code_theory.proofs.WordLaws.{word_length}
use Rattle.decode_reading.proofs.SettleLaws.{settled_doubtful}
use Rattle.decode_long.proofs.ReadLaws.{wrong_le, winning_measured, winning_read}
use Rattle.decode_long.proofs.read.Goals as goal

pub overflow_mul-reading : goal.overflow_mul-reading
overflow_mul-reading c =
    record { fits = omega (arith, wrong_le _ _ _ _ _ _ c.requires.0 c.winners-reading.ensures) }

pub overflow_cast-word : goal.overflow_cast-word
overflow_cast-word c =
    record { fits = omega (arith, word_length c.args.q c.args.m c.args.word.now c.requires.0) }

pub returns-then-reading-word : goal.returns-then-reading-word
returns-then-reading-word c =
    let r = c.winners-reading in
    settled_doubtful _ _ _ _ _ (winning_measured _ _ _ _ _ _ c.requires.0 r.ensures) c.args.message.now (omega (arith, c.requires.0.symbols.size))

-- the message is not longer than what was found
room : (m message found : ℕ) → m ≤ 8 → message ≡ m + 1 → found ≡ 9 → message ≤ found
room m message found h e f = omega (arith, e, f)

pub slice_bounds-found-end : goal.slice_bounds-found-end
slice_bounds-found-end c =
    room c.args.m _ _ c.requires.0.high c.requires.2 c.winners-reading.ensures.size

pub copy_from_slice-requires : goal.copy_from_slice-requires
copy_from_slice-requires c =
    let r = c.winners-reading in
    sym (length-take-le (length c.args.message.now) r.new.message (room c.args.m _ _ c.requires.0.high c.requires.2 r.ensures.size))

pub returns : goal.returns
returns c =
    let r = c.winners-reading in
    let copy = c.copy_from_slice in
    winning_read _ _ _ _ _ _ c.requires.0 r.ensures c.args.message.now copy.new.self (omega (arith, c.requires.0.symbols.size))
    (copy.ensures.after ∙ ap (λ n. take n r.new.message) (c.requires.2 ∙ add-one c.args.m))
