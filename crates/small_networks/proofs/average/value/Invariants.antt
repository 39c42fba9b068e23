-- Each bus passed adds its weight at most.
use Rattle.std.proofs.Common.{◌*◌, ◌≤◌}
use Rattle.small_networks.proofs.average.value.Given as goal

abbrev pub invariant-loop-bus : goal.invariant-loop-bus
invariant-loop-bus l = l.sum ≤ 65535 * l.bus
