use Rattle.std.proofs.Common.{◌<◌, ap, arith}
use Rattle.table_spec.specs.Layout.{bus_count}
use Rattle.table_spec.proofs.Rows.{row_valid}
use Rattle.outage.proofs.Counting.{counted_none, lower_found, upper_found, counted_next, none_left}
use Rattle.outage.proofs.ends_of.Goals as goal

pub loop-bus-init : goal.loop-bus-init
loop-bus-init c = counted_none _ _

pub first_above-first-requires : goal.first_above-first-requires
first_above-first-requires c = rw (c.neighbours-row.ensures.value, c.table-table.ensures.value) (row_valid c.table-table.ensures.network.shape c.loop-bus.bus (omega (arith, ap bus_count c.table-table.ensures.value, c.buses-bus-end.ensures.value))).ascends

pub returns-then-rest-above : goal.returns-then-rest-above
returns-then-rest-above c =
    let w = c.table-table.ensures.network in
    let b : c.loop-bus.bus < bus_count c.args.network.now = omega (arith, ap bus_count c.table-table.ensures.value, c.buses-bus-end.ensures.value) in (
      lower_found w b (rw c.table-table.ensures.value at c.neighbours-row.ensures.value) c.first_above-first.ensures c.loop-bus.invariant c.if-rest-above.true,
      upper_found w b (rw c.table-table.ensures.value at c.neighbours-row.ensures.value) c.first_above-first.ensures c.loop-bus.invariant c.if-rest-above.true c.entry.ensures.0,
    )

pub loop-bus-preserved : goal.loop-bus-preserved
loop-bus-preserved c =
    let b : c.loop-bus.bus < bus_count c.args.network.now = omega (arith, ap bus_count c.table-table.ensures.value, c.buses-bus-end.ensures.value) in
    counted_next c.table-table.ensures.network b (rw c.table-table.ensures.value at c.neighbours-row.ensures.value) c.first_above-first.ensures c.loop-bus.invariant c.if-rest-above.false

pub unreachable-requires : goal.unreachable-requires
unreachable-requires c = none_left c.table-table.ensures.network c.loop-bus.rest (omega (arith, ap bus_count c.table-table.ensures.value, c.buses-bus-end.ensures.value)) (omega (arith, ap bus_count c.table-table.ensures.value, c.buses-bus-end.ensures.value)) c.loop-bus.invariant c.requires
