use Rattle.lists.specs.Lists.{at}
use Rattle.share_terms.proofs.Giving.{next_there, next_fits, next-given}
use Rattle.share_terms.proofs.give.Goals as goal

pub bounds-numerators-bus : goal.bounds-numerators-bus
unfolding at
bounds-numerators-bus c = next_there _ c.args.term _ c.requires c.loop-bus.invariant c.loop-bus-test.true

pub bounds-numerators-bus-in-loop-bus : goal.bounds-numerators-bus-in-loop-bus
unfolding at
bounds-numerators-bus-in-loop-bus c = next_there _ c.args.term _ c.requires c.loop-bus.invariant c.loop-bus-test.true

pub overflow_add-numerators : goal.overflow_add-numerators
unfolding at
overflow_add-numerators c = record { fits = next_fits _ c.args.term _ c.requires c.loop-bus.invariant c.loop-bus-test.true }

pub loop-bus-preserved : goal.loop-bus-preserved
unfolding at
loop-bus-preserved c = next-given _ c.args.term _ c.requires c.loop-bus.invariant c.loop-bus-test.true
