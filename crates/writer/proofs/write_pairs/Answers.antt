use Rattle.std.proofs.Common.{ap, arith}
use Rattle.lists.proofs.Writes.{written_start, written_next, written_done, written_fits}
use Rattle.writer.specs.RowRecords.{row_records}
use Rattle.writer.proofs.FileWriting.{records_by_row}
use Rattle.writer.proofs.write_pairs.Goals as goal

pub loop-bus-init : goal.loop-bus-init
loop-bus-init c = written_start _ _ _

-- the records are written bus by bus, and all fit
pub write_row-end-requires : goal.write_row-end-requires
write_row-end-requires c =
    let room = rw (records_by_row c.args.table.now c.buses-bus-end.ensures.scorable c.buses-bus-end.ensures.value) at c.requires in
    written_fits _ _ _ c.loop-bus.invariant _ room (omega arith) (ap (row_records _) c.neighbours.ensures.value)

pub loop-bus-preserved : goal.loop-bus-preserved
loop-bus-preserved c =
    let room = rw (records_by_row c.args.table.now c.buses-bus-end.ensures.scorable c.buses-bus-end.ensures.value) at c.requires in
    written_next _ _ _ c.loop-bus.invariant (omega (arith, room)) (ap (row_records _) c.neighbours.ensures.value) c.write_row-end.ensures

pub returns : goal.returns
returns c =
    rw (records_by_row c.args.table.now c.buses-bus-end.ensures.scorable c.buses-bus-end.ensures.value)
    (written_done _ _ _ c.loop-bus.invariant _ (omega arith) (omega arith))
