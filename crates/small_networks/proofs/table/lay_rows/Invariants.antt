-- Each bus passed took as many places as there are buses at most.
use Rattle.std.proofs.Common.{◌+◌, ◌*◌, ◌≤◌}
use Rattle.small_networks.specs.declared.TheConstants.{MOST}
use Rattle.small_networks.proofs.table.lay_rows.Given as goal

abbrev pub invariant-loop-bus : goal.invariant-loop-bus
invariant-loop-bus l = (l.links ≤ l.place) × (l.place ≤ l.links + MOST * l.bus)
