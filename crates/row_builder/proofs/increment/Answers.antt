use Rattle.std.proofs.Common.{refl, arith}
use Rattle.lists.specs.Lists.{at}
use Rattle.row_builder.proofs.increment.Goals as goal

pub overflow_add-counts : goal.overflow_add-counts
unfolding at
overflow_add-counts c = omega (arith, c.requires.1)

pub returns : goal.returns
unfolding at
returns c = refl
