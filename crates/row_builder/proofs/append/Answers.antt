use Rattle.std.proofs.Common.{refl, arith}
use Rattle.lists.specs.Lists.{at}
use Rattle.row_builder.proofs.append.Goals as goal

pub bounds-rows-place : goal.bounds-rows-place
unfolding at
bounds-rows-place c = c.requires.1

pub overflow_add-next : goal.overflow_add-next
unfolding at
overflow_add-next c = omega (arith, c.requires.2)

pub returns-clause-rows_after : goal.returns-clause-rows_after
unfolding at
returns-clause-rows_after c = refl

pub returns-clause-next_after : goal.returns-clause-next_after
unfolding at
returns-clause-next_after c = refl
