use Rattle.std.proofs.Common.{◌+◌, ◌≤◌, length, ap, arith, rules}
use Rattle.lists.specs.Lists.{at}
use Rattle.lists.specs.Below.{join_below}
use Rattle.lists.proofs.Writes.{written_start, written_next, written_done, written_fits}
use Rattle.writer.specs.RowRecords.{record_above, row_records}
use Rattle.writer.proofs.write_row.Goals as goal

pub loop-neighbour-init : goal.loop-neighbour-init
loop-neighbour-init c = written_start _ _ _

-- all records fit
pub write_pair-end-requires : goal.write_pair-end-requires
unfolding row_records at
write_pair-end-requires c =
    (search rules, written_fits _ _ _ c.loop-neighbour.invariant (length c.args.row.now) c.requires (omega arith) (ap (record_above _) c.from.ensures))

pub loop-neighbour-preserved : goal.loop-neighbour-preserved
unfolding row_records at
loop-neighbour-preserved c =
    let room : c.args.at + length (join_below (length c.args.row.now) (λ k. record_above c.args.bus (at c.args.row.now k))) ≤ length c.args.out.now =
    c.requires in
    written_next _ _ _ c.loop-neighbour.invariant (omega (arith, room)) (ap (record_above _) c.from.ensures) c.write_pair-end.ensures

pub returns : goal.returns
unfolding row_records at
returns c = written_done _ _ _ c.loop-neighbour.invariant _ (omega arith) (omega arith)
