use Rattle.std.proofs.Common.{ap, arith}
use Rattle.table_spec.specs.Layout.{bus_count}
use Rattle.network.proofs.PartLaws.{length_needed}
use Rattle.network.proofs.table.Table.buses.Goals as goal

pub returns-clause-value : goal.returns-clause-value
returns-clause-value c = length_needed c.self.invariant c.self.view_is

pub returns-clause-small : goal.returns-clause-small
returns-clause-small c = omega (arith, ap bus_count c.self.view_is, length_needed c.self.invariant c.self.view_is, c.self.invariant.scorable.complete.most)
