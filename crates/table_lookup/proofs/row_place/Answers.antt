use Rattle.std.proofs.Common.{ap₂, refl, length, ◌∙◌}
use Rattle.refusals.proofs.Due.{accept}
use Rattle.table_spec.proofs.TableCauses.{on_held, on_bus}
use Rattle.table_spec.proofs.RowPlaces.{placed}
use Rattle.table_lookup.proofs.row_place.Goals as goal

pub returns-clause-stands : goal.returns-clause-stands
returns-clause-stands c =
    let held = c.in_ok-network.ensures in
    let same = c.table-table.ensures.value ∙ held.1 in
    let b = rw same at c.buses.ensures.value in
    let s = rw same at c.row_start.ensures in
    let r = rw same at c.neighbours.ensures.value in
    (placed c.args.table.now c.args.bus (on_held held.0 (on_bus b c.if-buses-bus.false (accept (ap₂ (λ start row. (start, length row)) s r) refl)))).1
