-- The records of the buses passed are written.
use Rattle.lists.specs.Lists.{WrittenAt}
use Rattle.lists.specs.Below.{join_below}
use Rattle.table_spec.specs.Layout.{row}
use Rattle.writer.specs.RowRecords.{row_records}
use Rattle.writer.proofs.write_pairs.Given as goal

abbrev pub invariant-loop-bus : goal.invariant-loop-bus
invariant-loop-bus l = WrittenAt (join_below l.bus (λ i. row_records i (row l.table i))) l.at l.initial.out l.end l.out
