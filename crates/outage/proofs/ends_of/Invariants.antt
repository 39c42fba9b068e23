use Rattle.std.proofs.Common.{◌≡◌, ◌+◌}
use Rattle.outage.proofs.Counting.{lines_before}
use Rattle.outage.proofs.ends_of.Given as goal

-- With `rest`, the lines at the buses passed come to the line.
abbrev pub invariant-loop-bus : goal.invariant-loop-bus
invariant-loop-bus l = l.rest + lines_before l.network l.bus ≡ l.line
