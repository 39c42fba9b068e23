use Rattle.std.proofs.Common.{arith, refl}
use Rattle.lists.specs.Below.{sum_below}
use Rattle.share_spec.specs.TableNetwork.{game_of}
use Rattle.share_terms.proofs.Adding.{added_none}
use Rattle.scorer.proofs.Scoring.{bus_added, bus_room, all_added}
use Rattle.scorer.proofs.score_table_over.Goals as goal

pub loop-bus-init : goal.loop-bus-init
unfolding sum_below
loop-bus-init c = added_none (λ v. refl) _

pub add_bus-requires-clause-tabled : goal.add_bus-requires-clause-tabled
add_bus-requires-clause-tabled c =
    let p = c.requires in
    let w = c.buses-n.ensures.scorable in
    (c.units-units.ensures, bus_room w p.1 c.args.numerators.now c.buses-n.ensures.value (omega arith) c.clear.ensures c.loop-bus.bus c.loop-bus.invariant c.loop-bus-test.true)

pub loop-bus-preserved : goal.loop-bus-preserved
loop-bus-preserved c =
    bus_added (game_of c.args.table.now) c.args.over c.loop-bus.bus c.loop-bus.invariant c.add_bus.ensures

pub returns : goal.returns
returns c =
    let p = c.requires in
    let w = c.buses-n.ensures.scorable in
    all_added w p.1 c.args.numerators.now c.buses-n.ensures.value (omega arith) c.clear.ensures c.loop-bus.bus c.loop-bus.invariant c.loop-bus.auto.bus-end c.loop-bus-test.false
