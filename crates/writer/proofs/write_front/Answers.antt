use Rattle.std.proofs.Common.{sym, subst, arith}
use Rattle.table_spec.specs.Holds.{NeedsInRange}
use Rattle.table_spec.proofs.Facts.{holds-needs}
use Rattle.write_spec.specs.FileOf.{word}
use Rattle.write_spec.proofs.PairLaws.{length-pair_records}
use Rattle.writer.proofs.FileWriting.{length-front_of, front_written}
use Rattle.writer.proofs.write_front.Goals as goal

pub write_word-needs_at-requires : goal.write_word-needs_at-requires
write_word-needs_at-requires c =
    (omega arith, omega (arith, c.requires, length-front_of _ c.table-table.ensures.network))

-- the bus count is written: the needs follow at place 2, and there is space for the rest
pub write_needs-lines_at-requires : goal.write_needs-lines_at-requires
unfolding word
write_needs-lines_at-requires c =
    let w = c.write_word-needs_at in
    let held = c.table-table.ensures.network in
    let same = c.table-table.ensures.value in
    let counted = rw same at c.needs.ensures.long in
    let e = rw same at c.needs.ensures.value in
    (subst NeedsInRange (sym e) (holds-needs _ held), omega (arith, w.ensures.0, w.auto.out, length-front_of _ held, c.requires, counted))

-- they are written: the number of lines follows behind them
pub write_word-pairs_at-requires : goal.write_word-pairs_at-requires
unfolding word
write_word-pairs_at-requires c =
    let w = c.write_word-needs_at in
    let v = c.write_needs-lines_at in
    let held = c.table-table.ensures.network in
    let counted = rw c.table-table.ensures.value at c.needs.ensures.long in (
      omega arith,
      omega (arith, v.ensures.0, w.ensures.0, counted, v.auto.out, w.auto.out, length-front_of _ held, c.requires),
    )

pub write_pairs-requires : goal.write_pairs-requires
unfolding word
write_pairs-requires c =
    let w = c.write_word-needs_at in
    let v = c.write_needs-lines_at in
    let m = c.write_word-pairs_at in
    let held = c.table-table.ensures.network in
    let counted = rw c.table-table.ensures.value at c.needs.ensures.long in
    rw c.table-table.ensures.value
    (omega (arith, m.ensures.0, v.ensures.0, w.ensures.0, counted, m.auto.out, v.auto.out, w.auto.out, length-front_of _ held, c.requires, length-pair_records _ held))

pub returns : goal.returns
returns c =
    let same = c.table-table.ensures.value in
    front_written _ _ (rw same at c.buses.ensures.value) (rw same at c.needs.ensures.value) c.lines.ensures.value
    c.write_word-needs_at.ensures c.write_needs-lines_at.ensures c.write_word-pairs_at.ensures (rw same at c.write_pairs.ensures)
