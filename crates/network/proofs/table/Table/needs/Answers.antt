use Rattle.network.proofs.PartLaws.{length_needed}
use Rattle.network.proofs.table.Table.needs.Goals as goal

pub returns-clause-long : goal.returns-clause-long
returns-clause-long c = length_needed c.self.invariant c.self.view_is
