use Rattle.std.proofs.Common.{arith, ◌∙◌}
use Rattle.lists.specs.Lists.{at}
use Rattle.lists.proofs.Writes.{written_none}
use Rattle.outage.proofs.Searching.{many_le, copied_next, left_out}
use Rattle.outage.proofs.leave_out.Goals.{then-neighbour-bus, else-neighbour-bus}
use Rattle.outage.proofs.leave_out.Goals as goal

pub loop-neighbour-init : goal.loop-neighbour-init
loop-neighbour-init c = written_none _ 0

pub offset_bounds-left-many : goal.offset_bounds-left-many
offset_bounds-left-many c = record { fits = omega (arith, many_le c.args.row.now c.args.bus _ _ c.loop-neighbour.invariant c.loop-neighbour-test.true) }

pub bounds-left-many : goal.bounds-left-many
bounds-left-many c = omega (arith, many_le c.args.row.now c.args.bus _ _ c.loop-neighbour.invariant c.loop-neighbour-test.true)

pub overflow_add-many : goal.overflow_add-many
overflow_add-many c = record { fits = omega (arith, many_le c.args.row.now c.args.bus _ _ c.loop-neighbour.invariant c.loop-neighbour-test.true) }

pub loop-neighbour-preserved : goal.loop-neighbour-preserved
unfolding at
loop-neighbour-preserved c =
    let t = c.loop-neighbour-test.true in
    let w = c.loop-neighbour.invariant in
    elim c.if-neighbour-bus.branch [
      | then-neighbour-bus z ↦
          let n = copied_next c.args.row.now c.args.bus _ _ w t z.if-neighbour-bus.true c.requires in
          (z.many-is ∙ n.0, z.left-is ∙ n.1)
      | else-neighbour-bus z ↦
          let n = left_out c.args.row.now c.args.bus _ _ w t z.if-neighbour-bus.false in
          (z.many-is ∙ n.0, z.left-is ∙ n.1)
    ]
