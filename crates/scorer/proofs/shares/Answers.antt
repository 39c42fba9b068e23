use Rattle.std.proofs.Common.{arith, refl, ◌∙◌}
use Rattle.refusals.proofs.Due.{accept, not-below}
use Rattle.table_spec.proofs.TableCauses.{on_held}
use Rattle.two_way.specs.TwoWay.{network_of}
use Rattle.two_way.proofs.TwoWaySound.{held_sound}
use Rattle.share_spec.proofs.SharePromises.{put_stored, shares_promised}
use Rattle.scorer.proofs.shares.Goals as goal

pub score_network-requires : goal.score_network-requires
score_network-requires c = rw (← c.table.ensures.value) (omega (arith, c.buses.ensures.value))

pub returns : goal.returns
returns c =
    let held = c.in_ok-network.ensures in
    let n = rw (c.table.ensures.value, held.1) at c.buses.ensures.value in
    let over = rw held.1 at c.score_network.ensures.value in
    let stored = rw held.1 at c.score_network.ensures.numerators_after in
    let w =
    shares_promised (network_of c.args.table.now) (held_sound c.args.table.now) _
    (on_held held.0 (not-below refl n c.if-numerators-buses.false (accept over (stored ∙ put_stored _ _)))) in
    record { answer = w.0; stored = w.1.0; fair = w.1.1 }
