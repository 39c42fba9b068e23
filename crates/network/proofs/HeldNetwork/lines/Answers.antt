use Rattle.std.proofs.Common.{arith}
use Rattle.table_spec.proofs.LineCount.{half, lines-le}
use Rattle.network.proofs.HeldNetwork.lines.Goals as goal

pub returns-clause-value : goal.returns-clause-value
returns-clause-value c = rw (c.numbers.ensures, c.self.view_is) (half _ (rw c.self.view_is at c.self.invariant))

pub returns-clause-small : goal.returns-clause-small
returns-clause-small c =
    let held = rw c.self.view_is at c.self.invariant in
    rw (c.numbers.ensures, c.self.view_is) (omega (arith, half _ held, lines-le _ held))
