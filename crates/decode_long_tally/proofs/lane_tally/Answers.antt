-- `lane_tally` meets its contract.
use native.Mathlib.Omega.{arith}
use Rattle.decode_long_tally.proofs.TallyLaws.{byte_lt, units_none, units_next, units_fit, units_all}
use Rattle.decode_long_tally.proofs.lane_tally.Goals as goal

pub loop-byte-init : goal.loop-byte-init
loop-byte-init c = units_none c.args.d

pub bounds-table-byte : goal.bounds-table-byte
bounds-table-byte c = byte_lt _ _ _ c.to_le_bytes-byte-items.ensures c.loop-byte-test.true c.requires.values

pub overflow_add-t : goal.overflow_add-t
overflow_add-t c = record { fits = units_fit _ _ _ _ _ c.requires c.to_le_bytes-byte-items.ensures c.loop-byte-test.true c.loop-byte.invariant }

pub loop-byte-preserved : goal.loop-byte-preserved
loop-byte-preserved c = units_next _ _ _ _ _ c.requires c.to_le_bytes-byte-items.ensures c.loop-byte-test.true c.loop-byte.invariant

pub returns : goal.returns
returns c =
    let l = c.loop-byte in
    units_all _ l.byte-index _ (omega arith) l.invariant c.requires.values
