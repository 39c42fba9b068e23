use Rattle.std.proofs.Common.{rules}
use Rattle.lists.specs.Lists.{at}
use Rattle.sorted_row.proofs.Placing.{behind_last, at_front}
use Rattle.sorted_row.proofs.insertion_place.Goals as goal

pub returns-in-Some : goal.returns-in-Some
unfolding at
returns-in-Some c = behind_last c.requires.1 (search rules) (search rules) (search rules)

pub returns-in-None : goal.returns-in-None
unfolding at
returns-in-None c = at_front (search rules)
