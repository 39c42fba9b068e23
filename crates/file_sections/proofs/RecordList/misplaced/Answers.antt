use Rattle.std.proofs.Common.{arith}
use Rattle.std.proofs.lemmas.Bool.Decides.{nat_tests}
use Rattle.file_spec.specs.RecordOrder.{turned, pair_below, falls}
use Rattle.file_sections.proofs.RecordList.misplaced.Goals as goal

pub returns-then-ends : goal.returns-then-ends
unfolding turned
returns-then-ends c = let e = c.ends-ends.ensures in grind (arith, nat_tests)

pub returns-then-k-eq0 : goal.returns-then-k-eq0
unfolding turned falls
returns-then-k-eq0 c = let e = c.ends-ends.ensures in grind (arith, nat_tests)

pub returns-then-ends-before : goal.returns-then-ends-before
unfolding turned falls pair_below
returns-then-ends-before c = let e = c.ends-ends.ensures in let f = c.ends-before.ensures in grind (arith, nat_tests)

pub returns : goal.returns
unfolding turned falls pair_below
returns c = let e = c.ends-ends.ensures in let f = c.ends-before.ensures in grind (arith, nat_tests)
