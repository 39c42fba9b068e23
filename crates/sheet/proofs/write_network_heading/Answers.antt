use Rattle.std.proofs.Common.{ap, arith, zero-le}
use Rattle.text.specs.Text.{filled}
use Rattle.two_way.specs.TwoWay.{network_of}
use Rattle.sheet.specs.Sheet.{heading_form}
use Rattle.sheet.proofs.LineFits.{held_short}
use Rattle.sheet.proofs.LineWriting.{heading_read, line_room, line-written}
use Rattle.sheet.proofs.write_network_heading.Goals as goal

pub fill_template-requires : goal.fill_template-requires
fill_template-requires c =
    let n = rw c.table.ensures.value at c.buses-buses.ensures.value in
    let read = heading_read (network_of c.args.network.now) n c.lines-lines.ensures.value c.requires.0 in
    (omega arith, line_room (held_short c.table.ensures.network) zero-le (ap (filled heading_form) read) c.args.at c.requires.1)

pub returns : goal.returns
returns c =
    let n = rw c.table.ensures.value at c.buses-buses.ensures.value in
    let read = heading_read (network_of c.args.network.now) n c.lines-lines.ensures.value c.requires.0 in
    let w = line-written (held_short c.table.ensures.network) zero-le (ap (filled heading_form) read) c.args.out.now c.args.at c.fill_template.ensures in
    record { written_at = w.0; upper_bound = w.1 }
