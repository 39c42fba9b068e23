use Rattle.share_spec.proofs.TableGame.{own_over}
use Rattle.scorer.proofs.share_in.Goals as goal

pub numerator-requires : goal.numerator-requires
numerator-requires c =
    let e = c.table-table.ensures.value in
    rw e (c.requires, own_over c.table-table.ensures.network.shape (rw e at c.denominator_of-over.ensures))
