use Rattle.std.proofs.Common.{◌/◌, ap}
use Rattle.std.proofs.Math.Nat.{pos_of_dvd_of_pos}
use Rattle.fraction.proofs.GcdLaws.{is_gcd_of}
use Rattle.fraction.proofs.reduce.Goals as goal

pub nonzero_div-result : goal.nonzero_div-result
nonzero_div-result c = pos_of_dvd_of_pos c.gcd-g.ensures.right c.requires

pub nonzero_div-result-2 : goal.nonzero_div-result-2
nonzero_div-result-2 c = pos_of_dvd_of_pos c.gcd-g.ensures.right c.requires

pub returns : goal.returns
returns c = ap (λ g. (c.args.numerator / g, c.args.denominator / g)) (is_gcd_of c.gcd-g.ensures)
