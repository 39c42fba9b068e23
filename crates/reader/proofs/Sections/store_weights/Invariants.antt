-- The weights of the buses passed are stored.
use Rattle.std.proofs.Common.{◌≡◌}
use Rattle.lists.specs.Lists.{put}
use Rattle.lists.specs.Below.{map_below}
use Rattle.file_spec.specs.FileBytes.{weight_in}
use Rattle.reader.proofs.Sections.store_weights.Given as goal

abbrev pub invariant-loop-bus : goal.invariant-loop-bus
invariant-loop-bus l = l.table ≡ put l.initial.table l.from (map_below l.bus (weight_in l.self.weights.now))
