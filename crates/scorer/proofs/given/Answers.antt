use Rattle.std.proofs.Common.{arith, ap, length}
use Rattle.table_spec.proofs.Rows.{degree-le}
use Rattle.share_terms.proofs.TermUnits.{term_asks, term_read}
use Rattle.scorer.proofs.given.Goals as goal

pub unit-requires : goal.unit-requires
unit-requires c = omega (arith, ap length c.neighbours-degree.ensures.value, degree-le c.neighbours-degree.ensures.scorable c.args.bus c.requires.0)

pub term-requires : goal.term-requires
term-requires c = term_asks c.neighbours-degree.ensures.scorable c.requires.1 c.requires.0 (ap length c.neighbours-degree.ensures.value) c.need.ensures c.unit.ensures

pub returns : goal.returns
returns c =
    term_read c.neighbours-degree.ensures.scorable c.requires.1 c.requires.0 (ap length c.neighbours-degree.ensures.value) c.need.ensures c.unit.ensures c.term.ensures
