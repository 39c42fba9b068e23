use Rattle.std.proofs.Common.{◌-◌}
use Rattle.outage.proofs.Searching.{Between}
use Rattle.outage.proofs.first_above.Given as goal

-- The buses above begin between `low` and `high`.
abbrev pub invariant-loop-low : goal.invariant-loop-low
invariant-loop-low l = Between l.row l.bus l.low l.high

abbrev pub decreases-loop-low : goal.decreases-loop-low
decreases-loop-low l = l.high - l.low
