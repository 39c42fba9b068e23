-- The starts of the rows passed are stored in the table, and in place of counts.
use Rattle.std.proofs.Common.{◌≡◌}
use Rattle.lists.specs.Lists.{at, put}
use Rattle.lists.specs.Below.{sum_below, map_below}
use Rattle.row_builder.proofs.store_starts.Given as goal

abbrev pub invariant-loop-bus : goal.invariant-loop-bus
invariant-loop-bus l =
    let starts = map_below l.bus (λ i. sum_below i (at l.initial.counts)) in
    (l.start ≡ sum_below l.bus (at l.initial.counts)) × (l.counts ≡ put l.initial.counts 0 starts) × (l.table ≡ put l.initial.table l.from starts)
