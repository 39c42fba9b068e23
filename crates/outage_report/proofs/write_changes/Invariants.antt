use Rattle.lists.specs.Lists.{WrittenAt}
use Rattle.lists.specs.Below.{join_below}
use Rattle.signed.specs.Signed.{signed_at}
use Rattle.outage_report.specs.OutageReport.{line_of}
use Rattle.outage_report.proofs.write_changes.Given as goal

-- The lines of the buses passed are written.
abbrev pub invariant-loop-bus : goal.invariant-loop-bus
invariant-loop-bus l = WrittenAt (join_below l.bus (λ v. line_of v (signed_at l.changes v))) 0 l.initial.out l.end l.out
