use Rattle.std.proofs.Common.{arith, refl, ap₂}
use Rattle.refusals.proofs.Due.{accept}
use Rattle.table_spec.proofs.TableCauses.{on_held, on_bus}
use Rattle.two_way.specs.TwoWay.{network_of}
use Rattle.two_way.proofs.TwoWaySound.{held_sound}
use Rattle.share_spec.proofs.SharePromises.{share_promised}
use Rattle.scorer.proofs.share.Goals as goal

pub share_in-requires : goal.share_in-requires
share_in-requires c = rw (← c.table.ensures.value) (omega (arith, c.buses.ensures.value))

pub returns-clause-fair : goal.returns-clause-fair
returns-clause-fair c =
    let held = c.in_ok-network.ensures in
    let n = rw (c.table.ensures.value, held.1) at c.buses.ensures.value in
    let share = rw held.1 at c.share_in.ensures in
    (share_promised (network_of c.args.table.now) (held_sound c.args.table.now) c.args.bus
    (on_held held.0 (on_bus n c.if-buses-bus.false (accept (ap₂ (λ x L. (x, L)) share.0 share.1) refl)))).1
