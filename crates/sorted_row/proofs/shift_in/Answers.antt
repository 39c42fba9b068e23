use Rattle.std.proofs.Common.{set, ap, ◌∙◌}
use Rattle.sorted_row.proofs.Shifts.{shifted}
use Rattle.sorted_row.proofs.shift_in.Goals as goal

pub returns : goal.returns
returns c = ap (λ r. set r c.args.p c.args.x) c.copy_within.ensures.after ∙ shifted c.args.row.now c.requires.0 c.requires.1 c.args.x
