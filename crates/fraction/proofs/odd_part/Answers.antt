use Rattle.std.proofs.Common.{rules}
use Rattle.fraction.proofs.Odd.{odd_part}
use Rattle.fraction.proofs.odd_part.Goals as goal

pub returns : goal.returns
returns c = odd_part c.args.x c.requires (search rules)
