use Rattle.std.proofs.Common.{length, ap, arith}
use Rattle.text.specs.Text.{filled}
use Rattle.share_spec.proofs.TableGame.{own_pos}
use Rattle.two_way.specs.TwoWay.{network_of}
use Rattle.sheet.specs.Sheet.{bus_form}
use Rattle.sheet.proofs.LineFits.{held_short}
use Rattle.sheet.proofs.LineWriting.{bus_read, line_room, line-written}
use Rattle.sheet.proofs.write_network_bus.Goals as goal

pub reduce-share-requires : goal.reduce-share-requires
reduce-share-requires c = omega (arith, own_pos c.table-table.ensures.network.shape, c.requires.over_value.0)

pub fill_template-requires : goal.fill_template-requires
fill_template-requires c =
    let same = c.table-table.ensures.value in
    let need = rw same at c.need-need.ensures in
    let row = rw same at c.neighbours.ensures.value in
    let read = bus_read (network_of c.args.network.now) need (ap length row) c.requires.over_value.1 c.requires.over_value.0 c.reduce-share.ensures in
    (omega arith, line_room (held_short c.table-table.ensures.network) c.requires.bus.0 (ap (filled bus_form) read) c.args.at c.requires.bus.1)

pub returns : goal.returns
returns c =
    let same = c.table-table.ensures.value in
    let need = rw same at c.need-need.ensures in
    let row = rw same at c.neighbours.ensures.value in
    let read = bus_read (network_of c.args.network.now) need (ap length row) c.requires.over_value.1 c.requires.over_value.0 c.reduce-share.ensures in
    let w = line-written (held_short c.table-table.ensures.network) c.requires.bus.0 (ap (filled bus_form) read) c.args.out.now c.args.at c.fill_template.ensures in
    record { written_at = w.0; upper_bound = w.1 }
