-- No more orders are uneven than were gone through.
use Rattle.std.proofs.Common.{◌≤◌}
use Rattle.small_networks.proofs.average.all_orders.Given as goal

abbrev pub invariant-loop-number : goal.invariant-loop-number
invariant-loop-number l = l.uneven ≤ l.number
