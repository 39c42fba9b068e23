-- Each row has the neighbours of the records passed.
use Rattle.std.proofs.Common.{length}
use Rattle.row_builder.specs.GrowingRows.{GrowingRows}
use Rattle.file_spec.specs.Records.{neighbours}
use Rattle.file_records.proofs.SortedRecords.fill_rows.Given as goal

abbrev pub invariant-loop-k : goal.invariant-loop-k
invariant-loop-k l =
    GrowingRows l.self.buses (λ i. length (neighbours l.self.buses l.self.records.count l.self.records.bytes.now i)) (neighbours l.self.buses l.k l.self.records.bytes.now) l.next l.rows
