-- The buses passed have the term.
use Rattle.std.proofs.Common.{◌*◌, take}
use Rattle.lists.specs.Lists.{count}
use Rattle.share_terms.specs.Added.{Added}
use Rattle.share_terms.proofs.give.Given as goal

abbrev pub invariant-loop-bus : goal.invariant-loop-bus
invariant-loop-bus l = Added (λ bus. l.term * count bus (take l.bus-index l.row)) l.initial.numerators l.numerators
