use Rattle.std.proofs.Common.{arith}
use Rattle.std.proofs.lemmas.Grind.{common_steps}
use Rattle.table_spec.specs.Holds.{within, complete}
use Rattle.table_check.proofs.complete.Goals as goal

pub returns-then-from-n : goal.returns-then-from-n
unfolding complete within
returns-then-from-n c = grind (arith, common_steps)

pub returns-else-from-n : goal.returns-else-from-n
unfolding complete within
returns-else-from-n c = grind (arith, common_steps)
