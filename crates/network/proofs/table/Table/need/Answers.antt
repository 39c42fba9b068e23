use Rattle.std.proofs.Common.{arith}
use Rattle.network.proofs.PartLaws.{length_needed}
use Rattle.network.proofs.table.Table.need.Goals as goal

pub entry-requires : goal.entry-requires
entry-requires c = omega (arith, length_needed c.self.invariant c.self.view_is)
