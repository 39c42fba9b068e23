use Rattle.std.proofs.Common.{rules}
use Rattle.lists.specs.Lists.{at}
use Rattle.scorer.proofs.units.Goals as goal

pub returns : goal.returns
unfolding at
returns c i b = let made = c.from_fn.ensures.items.at i 0 b in search rules
