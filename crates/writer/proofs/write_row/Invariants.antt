-- The records of the neighbours passed are written.
use Rattle.lists.specs.Lists.{at, WrittenAt}
use Rattle.lists.specs.Below.{join_below}
use Rattle.writer.specs.RowRecords.{record_above}
use Rattle.writer.proofs.write_row.Given as goal

abbrev pub invariant-loop-neighbour : goal.invariant-loop-neighbour
invariant-loop-neighbour l = WrittenAt (join_below l.neighbour-index (λ k. record_above l.bus (at l.row k))) l.at l.initial.out l.end l.out
