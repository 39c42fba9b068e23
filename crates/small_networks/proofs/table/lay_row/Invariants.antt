-- No more neighbours are laid than buses were passed.
use Rattle.std.proofs.Common.{◌+◌, ◌≤◌}
use Rattle.small_networks.proofs.table.lay_row.Given as goal

abbrev pub invariant-loop-other : goal.invariant-loop-other
invariant-loop-other l = (l.start ≤ l.place) × (l.place ≤ l.start + l.other)
