use Rattle.table_spec.proofs.Rows.{starts_read}
use Rattle.network.proofs.table.starts.Goals as goal

pub returns : goal.returns
returns c = starts_read _ _ c.bus_count-n.ensures.0
