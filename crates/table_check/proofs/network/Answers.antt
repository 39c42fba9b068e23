use Rattle.std.proofs.Common.{sym}
use Rattle.table_spec.proofs.Facts.{holds_facts}
use Rattle.table_check.proofs.network.Goals as goal

pub new-requires : goal.new-requires
new-requires c = holds_facts _ (sym c.if-holds.ensures)
