use Rattle.std.proofs.Common.{◌∙◌}
use Rattle.network.proofs.PartLaws.{part_lies, part_row}
use Rattle.network.proofs.table.Table.neighbours.Goals as goal

pub row_at-requires : goal.row_at-requires
row_at-requires c = part_lies c.self.invariant c.self.view_is c.args.bus c.requires

pub returns-clause-value : goal.returns-clause-value
returns-clause-value c = c.row_at.ensures ∙ part_row c.self.invariant c.self.view_is c.args.bus
