-- The own term and the terms of the neighbours passed.
use Rattle.std.proofs.Common.{◌≡◌}
use Rattle.scorer.proofs.Summing.{summed}
use Rattle.scorer.proofs.numerator.Given as goal

abbrev pub invariant-loop-neighbour : goal.invariant-loop-neighbour
invariant-loop-neighbour l = l.sum ≡ summed l.table l.over l.bus l.neighbour-index
