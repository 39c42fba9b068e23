use Rattle.std.proofs.Common.{arith}
use Rattle.std.proofs.lemmas.Bool.Decides.{nat_tests}
use Rattle.file_records.specs.RecordSteps.{equals_last}
use Rattle.file_records.proofs.SortedRecords.equals_last.Goals as goal

pub returns-then-k-gt0 : goal.returns-then-k-gt0
unfolding equals_last
returns-then-k-gt0 c = let e = c.ends.ensures in let f = c.ends-then-k-gt0.ensures in grind (arith, nat_tests)

pub returns-else-k-gt0 : goal.returns-else-k-gt0
unfolding equals_last
returns-else-k-gt0 c = grind (arith, nat_tests)
