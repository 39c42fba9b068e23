-- The neighbours and the pairs of the records passed are counted.
use Rattle.std.proofs.Common.{◌≡◌}
use Rattle.file_spec.specs.Records.{pair_count}
use Rattle.file_records.specs.RecordSteps.{NeighbourCounts}
use Rattle.file_records.proofs.SortedRecords.count_neighbours.Given as goal

abbrev pub invariant-loop-k : goal.invariant-loop-k
invariant-loop-k l = (l.pairs ≡ pair_count l.k l.self.records.bytes.now) × NeighbourCounts l.self.buses l.k l.self.records.bytes.now l.counts
