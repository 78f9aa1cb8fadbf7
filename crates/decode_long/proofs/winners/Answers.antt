-- `winners` meets its contract: the table of units is right.
use Rattle.decode_long_tally.proofs.CounterLaws.{units_table}
use Rattle.decode_long.proofs.winners.Goals as goal

pub winners_long-requires : goal.winners_long-requires
winners_long-requires c = (c.requires.0, units_table, c.requires.1, c.requires.2)
