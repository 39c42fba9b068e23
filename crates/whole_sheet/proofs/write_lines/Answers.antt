use Rattle.std.proofs.Common.{◌≡◌, ◌<◌, refl, arith}
use Rattle.lists.specs.Lists.{at}
use Rattle.lists.proofs.Writes.{written_start, written_next}
use Rattle.table_spec.specs.Layout.{bus_count}
use Rattle.two_way.specs.TwoWay.{network_of}
use Rattle.whole_sheet.proofs.SheetWriting.{all-written}
use Rattle.whole_sheet.proofs.write_lines.Goals as goal

pub loop-bus-init : goal.loop-bus-init
loop-bus-init c = (written_start _ _ _, omega arith)

pub write_network_bus-end-requires-clause-over_value : goal.write_network_bus-end-requires-clause-over_value
unfolding at
write_network_bus-end-requires-clause-over_value c =
    let n = rw c.table.ensures.value at c.buses-n.ensures.value in
    let b : c.loop-bus.bus < bus_count c.args.network.now = omega (arith, n) in
    (c.requires.0.over, c.requires.0.each c.loop-bus.bus b)

pub loop-bus-preserved : goal.loop-bus-preserved
loop-bus-preserved c = (
  written_next _ _ _ c.loop-bus.invariant.0 (omega (arith, c.write_network_heading-end.ensures.upper_bound, c.write_network_heading-end.auto.out, c.requires.1)) refl c.write_network_bus-end.ensures.written_at,
  omega (arith, c.write_network_bus-end.ensures.upper_bound, c.loop-bus.invariant.1),
)

pub returns-clause-written_at : goal.returns-clause-written_at
returns-clause-written_at c =
    let n = rw c.table.ensures.value at c.buses-n.ensures.value in
    let all : c.loop-bus.bus ≡ bus_count c.args.network.now = omega (arith, n) in
    all-written (network_of c.args.network.now) c.args.out.now c.write_network_heading-end.ensures.written_at all c.loop-bus.invariant.0
