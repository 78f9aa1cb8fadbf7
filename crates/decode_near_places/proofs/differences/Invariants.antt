-- `differences` meets its contract: of the places passed, so many differ.
use Rattle.std.proofs.Common.{◌≡◌, ◌≤◌}
use Rattle.decode_near_places.specs.Internal.{differing}
use Rattle.decode_near_places.proofs.differences.Given as goal

abbrev pub invariant-loop-i : goal.invariant-loop-i
invariant-loop-i l = (l.wrong ≤ l.i) × (l.wrong ≡ differing l.code l.word 0 l.i)
