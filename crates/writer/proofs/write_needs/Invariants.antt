-- The needs passed are written.
use Rattle.lists.specs.Writes.{Copied}
use Rattle.writer.proofs.write_needs.Given as goal

abbrev pub invariant-loop-bus : goal.invariant-loop-bus
invariant-loop-bus l = Copied l.initial.out l.at l.needs l.out l.bus
