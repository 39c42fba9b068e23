use Rattle.lists.proofs.Writes.{written_front}
use Rattle.table_spec.proofs.TableCauses.{on_held}
use Rattle.two_way.specs.TwoWay.{network_of}
use Rattle.sheet.proofs.LineDue.{due_text}
use Rattle.whole_sheet.proofs.SheetDue.{sheet_due}
use Rattle.whole_sheet.proofs.whole.Goals as goal

pub returns : goal.returns
returns c =
    let held = c.in_ok-network.ensures in
    let written = rw held.1 at c.write_network-bytes.ensures.written_at in
    let w =
    sheet_due (network_of c.args.table.now) c.args.out.now
    (on_held held.0 (due_text _ _ (written_front _ _ written) (c.copy_text.ensures.result_value, c.copy_text.ensures.out_after))) in
    record { answer = w.0; text = w.1 }
