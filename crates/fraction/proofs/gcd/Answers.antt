use Rattle.std.proofs.Common.{arith, rules}
use Rattle.fraction.proofs.Binary.{step, agreed}
use Rattle.fraction.proofs.gcd.Goals as goal

pub loop-a-preserved : goal.loop-a-preserved
loop-a-preserved c = step c.loop-a.invariant c.abs_diff.ensures c.odd_part-rest.ensures c.min-a.ensures

pub returns : goal.returns
returns c =
    agreed (omega arith) (search rules) c.odd_part-a.ensures c.odd_part-b.ensures c.loop-a.invariant (omega arith) c.min-twos.ensures
