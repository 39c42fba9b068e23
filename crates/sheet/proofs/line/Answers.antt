use Rattle.std.proofs.Common.{refl, arith}
use Rattle.lists.proofs.Writes.{written_front}
use Rattle.refusals.proofs.Due.{not-below}
use Rattle.table_spec.proofs.TableCauses.{on_held}
use Rattle.two_way.specs.TwoWay.{network_of}
use Rattle.sheet.proofs.LineDue.{due_text, line_due}
use Rattle.sheet.proofs.line.Goals as goal

pub write_line-bytes-requires : goal.write_line-bytes-requires
write_line-bytes-requires c = (rw (← c.table.ensures.value) (omega (arith, c.buses.ensures.value)), omega arith)

pub returns : goal.returns
returns c =
    let held = c.in_ok-network.ensures in
    let n = rw (c.table.ensures.value, held.1) at c.buses.ensures.value in
    let written = rw held.1 at c.write_line-bytes.ensures.written_at in
    let w =
    line_due (network_of c.args.table.now) c.args.i c.args.out.now
    (on_held held.0 (not-below n refl c.if-buses-i.false
    (due_text _ _ (written_front _ _ written) (c.copy_text.ensures.result_value, c.copy_text.ensures.out_after)))) in
    record { answer = w.0; text = w.1 }
