use Rattle.network.proofs.PartLaws.{part_start}
use Rattle.network.proofs.table.Table.row_start.Goals as goal

pub returns : goal.returns
returns c = part_start c.self.invariant c.self.view_is c.args.bus c.starts_at.ensures.0 c.entry.ensures.0
