-- The loop's invariant: the first k symbols are written.
use Rattle.decode_short.proofs.SettleLaws.{Front}
use Rattle.decode_short.proofs.store.Given as goal

abbrev pub invariant-loop-k : goal.invariant-loop-k
invariant-loop-k g l = Front l.k l.symbols l.initial.s l.s
