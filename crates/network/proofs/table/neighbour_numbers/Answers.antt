use Rattle.table_spec.proofs.Rows.{numbers_read}
use Rattle.network.proofs.table.neighbour_numbers.Goals as goal

pub returns : goal.returns
returns c = numbers_read _ _ c.bus_count-n.ensures.0 c.entry.ensures.0
