use Rattle.lists.specs.Lists.{at}
use Rattle.signed.specs.Signed.{difference, Fronted}
use Rattle.outage.proofs.store.Given as goal

-- The changes of the buses passed are stored.
abbrev pub invariant-loop-bus : goal.invariant-loop-bus
invariant-loop-bus l = Fronted l.bus (λ v. difference (at l.after v) (at l.before v)) l.initial.changes l.changes
