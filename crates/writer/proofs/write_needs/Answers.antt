use Rattle.std.proofs.Common.{refl, arith}
use Rattle.lists.specs.Lists.{at}
use Rattle.lists.proofs.Writes.{copied_none, copied_entry}
use Rattle.writer.proofs.write_needs.Goals as goal

pub loop-bus-init : goal.loop-bus-init
loop-bus-init c = copied_none _ _ c.args.needs.now

pub overflow_cast-out : goal.overflow_cast-out
unfolding at
overflow_cast-out c = omega (arith, (c.requires.0 c.loop-bus.bus (omega arith)).1)

pub loop-bus-preserved : goal.loop-bus-preserved
unfolding at
loop-bus-preserved c = copied_entry _ _ _ c.loop-bus.invariant refl c.requires.1 (omega arith)
