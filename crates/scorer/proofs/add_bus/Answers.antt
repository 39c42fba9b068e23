use Rattle.std.proofs.Common.{arith, ◌<◌, ap, length}
use Rattle.lists.specs.Lists.{at}
use Rattle.table_spec.proofs.Rows.{degree-le}
use Rattle.share_terms.proofs.RowTerms.{terms_asked}
use Rattle.scorer.specs.ScorerWork.{degrees}
use Rattle.scorer.proofs.Scoring.{terms_room, all_terms}
use Rattle.scorer.proofs.add_bus.Goals as goal

pub bounds-units-row : goal.bounds-units-row
bounds-units-row c =
    omega (arith, ap length c.neighbours-row.ensures.value, degree-le c.neighbours-row.ensures.scorable c.args.bus c.requires.bus.0)

pub offset_bounds-units-row : goal.offset_bounds-units-row
offset_bounds-units-row c =
    record { fits = omega (arith, ap length c.neighbours-row.ensures.value, degree-le c.neighbours-row.ensures.scorable c.args.bus c.requires.bus.0) }

-- The degree is one of those that have a unit.
pub add_terms-requires-clause-weight_le_max_weight : goal.add_terms-requires-clause-weight_le_max_weight
unfolding at
add_terms-requires-clause-weight_le_max_weight c =
    let p = c.requires.bus in
    let w = c.neighbours-row.ensures.scorable in
    let er = c.neighbours-row.ensures.value in
    let fits : length c.neighbours-row.result.now < degrees = omega (arith, ap length er, degree-le w c.args.bus p.0) in
    terms_asked w p.0 er c.weight-weight.ensures.1 c.need-need.ensures p.1 (c.requires.tabled.0 _ fits)

pub add_terms-requires-clause-by_index : goal.add_terms-requires-clause-by_index
add_terms-requires-clause-by_index c =
    let p = c.requires.bus in
    let w = c.neighbours-row.ensures.scorable in
    (terms_room w p.1 p.0 c.neighbours-row.ensures.value c.args.numerators.now c.requires.tabled.1).1

pub returns : goal.returns
returns c =
    let p = c.requires.bus in
    let w = c.neighbours-row.ensures.scorable in
    all_terms w p.1 p.0 c.neighbours-row.ensures.value c.weight-weight.ensures.0 c.need-need.ensures c.add_terms.ensures
