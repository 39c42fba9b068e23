use Rattle.network.proofs.PartLaws.{length_weighed}
use Rattle.network.proofs.table.Table.weights.Goals as goal

pub returns-clause-long : goal.returns-clause-long
returns-clause-long c = length_weighed c.self.invariant c.self.view_is
