use Rattle.table_spec.proofs.Rows.{needs_read}
use Rattle.network.proofs.table.needs.Goals as goal

pub returns : goal.returns
returns c = needs_read _ c.bus_count-n.ensures.0
