-- The records passed are in order.
use Rattle.std.proofs.Common.{◌≡◌, false}
use Rattle.file_spec.specs.RecordOrder.{out_of_order}
use Rattle.file_sections.proofs.RecordList.out_of_order.Given as goal

abbrev pub invariant-loop-k : goal.invariant-loop-k
invariant-loop-k l = out_of_order l.k l.self.bytes.now ≡ false
