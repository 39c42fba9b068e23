use Rattle.std.proofs.Common.{arith}
use Rattle.std.proofs.lemmas.Grind.{common_steps}
use Rattle.table_spec.specs.Holds.{within}
use Rattle.network.proofs.within.Goals as goal

pub returns : goal.returns
unfolding within
returns c = grind (arith, common_steps)
