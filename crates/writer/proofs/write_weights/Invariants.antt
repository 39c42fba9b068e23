-- The weights passed are written.
use Rattle.lists.specs.Lists.{at, WrittenAt}
use Rattle.lists.specs.Below.{join_below}
use Rattle.write_spec.specs.FileOf.{word}
use Rattle.writer.proofs.write_weights.Given as goal

abbrev pub invariant-loop-weight : goal.invariant-loop-weight
invariant-loop-weight l = WrittenAt (join_below l.weight-index (λ i. word (at l.weights i))) l.at l.initial.out l.end l.out
