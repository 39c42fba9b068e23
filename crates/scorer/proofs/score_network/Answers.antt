-- Lines run both ways, so the game's formula is the scope's along the bus's own row.
use Rattle.std.proofs.Common.{ap, ◌∙◌}
use Rattle.lists.specs.Lists.{put}
use Rattle.lists.specs.Below.{map_below}
use Rattle.lists.proofs.JoinBelow.{map_below-same}
use Rattle.table_spec.specs.Layout.{bus_count}
use Rattle.share_spec.specs.Formula.{numerator_over}
use Rattle.share_spec.proofs.FairFormula.{as_game}
use Rattle.share_spec.proofs.TableGame.{own_over}
use Rattle.two_way.specs.TwoWay.{network_of}
use Rattle.two_way.proofs.TwoWaySound.{watching}
use Rattle.scorer.proofs.score_network.Goals as goal

pub score_table_over-requires : goal.score_table_over-requires
score_table_over-requires c =
    let e = c.table-table.ensures.value in
    rw e (c.requires, own_over c.table-table.ensures.network.shape (rw e at c.denominator_of-over.ensures))

pub returns-clause-numerators_after : goal.returns-clause-numerators_after
returns-clause-numerators_after c =
    let t = c.args.network.now in
    let w = c.table-table.ensures.network in
    let e = c.table-table.ensures.value in
    rw e at c.score_table_over.ensures
    ∙ ap (put c.args.numerators.now 0)
    (map_below-same _ _ (bus_count t) (as_game (watching w.shape w.mirrored) c.denominator_of-over.result)
    ∙ ap (λ L. map_below (bus_count t) (numerator_over (network_of t) L)) (rw e at c.denominator_of-over.ensures))
