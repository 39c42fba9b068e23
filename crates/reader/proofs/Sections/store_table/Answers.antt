use Rattle.std.proofs.Common.{length, arith}
use Rattle.lists.proofs.JoinBelow.{length-map_below}
use Rattle.file_spec.specs.FileBytes.{weight_in}
use Rattle.file_spec.specs.Records.{neighbours}
use Rattle.file_records.proofs.RecordLaws.{ordered}
use Rattle.reader.proofs.Building.{laid-length, built}
use Rattle.reader.proofs.Sections.store_table.Goals as goal

pub store_rows-requires-clause-counted : goal.store_rows-requires-clause-counted
store_rows-requires-clause-counted c = rw c.args.self.now.counted c.requires.counted

pub store_rows-requires-clause-section_in_bounds : goal.store_rows-requires-clause-section_in_bounds
store_rows-requires-clause-section_in_bounds c =
    let s = c.args.self.now in
    omega (
      arith,
      s.counted,
      c.starts_from.ensures,
      laid-length (ordered s.sorted),
      c.requires.room,
      c.store_weights.auto.table,
      c.store_needs.auto.table,
    )

pub returns : goal.returns
returns c =
    let s = c.args.self.now in
    let r = s.sorted.records in
    let n = length s.needs.now in
    built _ s.needs.now _ (neighbours n r.count r.bytes.now) (length-map_below n (weight_in s.weights.now)) c.weights_from.ensures c.starts_from.ensures
    c.store_needs.ensures c.store_weights.ensures (rw s.counted at c.store_rows.ensures)
