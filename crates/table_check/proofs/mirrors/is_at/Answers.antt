use Rattle.std.proofs.Common.{arith}
use Rattle.std.proofs.lemmas.Grind.{common_steps}
use Rattle.table_check.specs.Cursors.{is_at}
use Rattle.table_check.proofs.mirrors.is_at.Goals as goal

pub returns-then-k-row : goal.returns-then-k-row
unfolding is_at
returns-then-k-row c = grind (arith, common_steps)

pub returns-else-k-row : goal.returns-else-k-row
unfolding is_at
returns-else-k-row c = grind (arith, common_steps)
