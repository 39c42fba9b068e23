use Rattle.std.proofs.Common.{refl, sym}
use Rattle.std.proofs.Math.Nat.{div-zero}
use Rattle.share_terms.specs.Unit.{unit}
use Rattle.share_terms.proofs.unit.Goals as goal

pub returns-then-degree-eq0 : goal.returns-then-degree-eq0
unfolding unit
returns-then-degree-eq0 c = rw c.if-degree-eq0.true (sym (div-zero _))

pub returns : goal.returns
unfolding unit
returns c = refl
