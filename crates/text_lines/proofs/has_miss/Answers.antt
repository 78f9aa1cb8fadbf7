-- `has_miss` meets its contract, by the tests that led to each answer.
use mathlib.Core.Path.{sym}
use native.Mathlib.Omega.{arith}
use borrow.Author.Tests.{lt-ltb, le-ltb}
use lib.Seq.{length-take-le}
use Rattle.text_lines.specs.Internal.{has_miss}
use Rattle.text_lines.proofs.has_miss.Goals as goal

pub slice_bounds-is_miss-end : goal.slice_bounds-is_miss-end
slice_bounds-is_miss-end c =
    sym (length-take-le c.args.n c.args.bytes.now (omega arith))

pub returns-then-n-bytes : goal.returns-then-n-bytes
unfolding has_miss
returns-then-n-bytes c = simp (lt-ltb _ _ c.if-n-bytes.true) c.is_miss.ensures

pub returns-else-n-bytes : goal.returns-else-n-bytes
unfolding has_miss
returns-else-n-bytes c = simp (le-ltb _ _ c.if-n-bytes.false)
