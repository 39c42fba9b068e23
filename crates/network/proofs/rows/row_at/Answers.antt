use Rattle.table_spec.proofs.Rows.{row_read}
use Rattle.network.proofs.rows.row_at.Goals as goal

pub returns : goal.returns
returns c = row_read _ _ _ c.entry-start.ensures.0 c.entry-end.ensures.0
