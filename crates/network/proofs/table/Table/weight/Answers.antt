use Rattle.std.proofs.Common.{arith}
use Rattle.network.proofs.PartLaws.{length_weighed}
use Rattle.network.proofs.table.Table.weight.Goals as goal

pub entry-requires : goal.entry-requires
entry-requires c = omega (arith, length_weighed c.self.invariant c.self.view_is)
