use Rattle.lists.specs.Lists.{at}
use Rattle.std.proofs.Common.{refl, arith}
use Rattle.network.proofs.rows.entry.Goals as goal

pub returns : goal.returns
unfolding at
returns c = (refl, omega (arith, c.type_inv.list c.args.i))
