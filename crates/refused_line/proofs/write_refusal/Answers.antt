use Rattle.std.proofs.Common.{ap, arith, length}
use Rattle.refused_line.specs.RefusedLine.{refused_line}
use Rattle.refused_line.proofs.RefusedFits.{refused_fits}
use Rattle.refused_line.proofs.write_refusal.Goals as goal

pub fill_template-requires : goal.fill_template-requires
fill_template-requires c = let z = refused_fits c.number.result (omega arith) in (omega arith, omega (arith, c.requires))

pub returns-clause-upper_bound : goal.returns-clause-upper_bound
returns-clause-upper_bound c = let z = refused_fits c.number.result (omega arith) in omega (arith, c.fill_template.ensures.0)
