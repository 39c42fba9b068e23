use Rattle.std.proofs.Common.{arith}
use Rattle.std.proofs.lemmas.Bool.Decides.{nat_tests}
use Rattle.file_spec.specs.Sections.{two_buses}
use Rattle.file_sections.proofs.two_buses.Goals as goal

pub returns-then-b-n : goal.returns-then-b-n
unfolding two_buses
returns-then-b-n c = grind (arith, nat_tests)

pub returns-else-b-n : goal.returns-else-b-n
unfolding two_buses
returns-else-b-n c = grind (arith, nat_tests)
