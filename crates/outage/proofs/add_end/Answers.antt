use Rattle.std.proofs.Common.{arith, ◌≡◌, ℕ, List, [], ◌∷◌, ◌*◌, ◌≤◌, ◌<◌, sym, length-take-le}
use Rattle.table_spec.specs.Layout.{bus_count, row}
use Rattle.table_spec.specs.Holds.{Holds}
use Rattle.share_spec.specs.TableNetwork.{Over}
use Rattle.lists.specs.Lists.{without, WrittenAt}
use Rattle.lists.proofs.Without.{length-without-le}
use Rattle.lists.proofs.Writes.{written_front}
use Rattle.table_spec.specs.Limits.{max_degree, max_weight}
use Rattle.share_terms.proofs.RowTerms.{added_by, row_short, terms_asked}
use Rattle.outage.proofs.EndRows.{end_room, left_is, left_room, left_asked}
use Rattle.outage.proofs.add_end.Goals as goal

-- what is asked of a network and its end
asked : {t : List ℕ} {end L : ℕ} → Holds t → (end < bus_count t) × Over t L → Holds t × (end < bus_count t) × Over t L
asked w r = (w, r.0, r.1)

-- what is left of the row of an end is no longer than a row may be
left_short : (other : ℕ) (left : List ℕ) {t r new : List ℕ} {end many L : ℕ} → Holds t × (end < bus_count t) × Over t L → r ≡ row t end → WrittenAt (without (other ∷ []) r) 0 left many new → many ≤ max_degree
left_short other left {r = r} h e w = omega (arith, w.0, length-without-le (other ∷ []) r, row_short h.0.shape h.1 e)

pub unit-requires : goal.unit-requires
unit-requires c = row_short c.table-table.ensures.network.shape c.requires.end.0 (rw c.table-table.ensures.value at c.neighbours-row.ensures.value)

pub add_terms-requires-clause-weight_le_max_weight : goal.add_terms-requires-clause-weight_le_max_weight
add_terms-requires-clause-weight_le_max_weight c =
    let h = asked c.table-table.ensures.network c.requires.end in
    terms_asked h.0.shape h.1 (rw c.table-table.ensures.value at c.neighbours-row.ensures.value) c.weight-weight.ensures.1 (rw c.table-table.ensures.value at c.need-need.ensures) h.2 c.unit.ensures

pub add_terms-requires-clause-by_index : goal.add_terms-requires-clause-by_index
add_terms-requires-clause-by_index c =
    let h = asked c.table-table.ensures.network c.requires.end in
    let room = c.requires.room_before in
    (end_room h.0 h.1 (rw c.table-table.ensures.value at c.neighbours-row.ensures.value) (max_weight * c.args.over) c.args.before.now room.0 room.1).1

pub leave_out-many-requires : goal.leave_out-many-requires
leave_out-many-requires c = row_short c.table-table.ensures.network.shape c.requires.end.0 (rw c.table-table.ensures.value at c.neighbours-row.ensures.value)

pub slice_bounds-left-end : goal.slice_bounds-left-end
slice_bounds-left-end c =
    omega (arith, left_short _ _ (asked c.table-table.ensures.network c.requires.end) (rw c.table-table.ensures.value at c.neighbours-row.ensures.value) c.leave_out-many.ensures, c.leave_out-many.auto.left)

pub slice_bounds-add_terms-end : goal.slice_bounds-add_terms-end
slice_bounds-add_terms-end c =
    sym (length-take-le _ _ (omega (arith, left_short _ _ (asked c.table-table.ensures.network c.requires.end) (rw c.table-table.ensures.value at c.neighbours-row.ensures.value) c.leave_out-many.ensures, c.leave_out-many.auto.left)))

pub unit-requires-2 : goal.unit-requires-2
unit-requires-2 c =
    let h = asked c.table-table.ensures.network c.requires.end in
    omega (arith, left_short _ _ h (rw c.table-table.ensures.value at c.neighbours-row.ensures.value) c.leave_out-many.ensures, row_short h.0.shape h.1 (rw c.table-table.ensures.value at c.neighbours-row.ensures.value))

pub add_terms-requires-2-clause-weight_le_max_weight : goal.add_terms-requires-2-clause-weight_le_max_weight
add_terms-requires-2-clause-weight_le_max_weight c =
    let h = asked c.table-table.ensures.network c.requires.end in
    let m = c.leave_out-many.ensures in
    let short = left_short _ _ h (rw c.table-table.ensures.value at c.neighbours-row.ensures.value) m in
    left_asked h.0 h.1 (rw c.table-table.ensures.value at c.neighbours-row.ensures.value) c.args.other (written_front _ _ m) c.weight-weight.ensures.1 (rw c.table-table.ensures.value at c.need-need.ensures) c.requires.divided
    (sym (length-take-le c.leave_out-many.result c.leave_out-many.new.left (omega (arith, short, c.leave_out-many.auto.left)))) c.unit-2.ensures

pub add_terms-requires-2-clause-by_index : goal.add_terms-requires-2-clause-by_index
add_terms-requires-2-clause-by_index c =
    let h = asked c.table-table.ensures.network c.requires.end in
    let room = c.requires.room_after in
    let left = written_front _ _ c.leave_out-many.ensures in
    (left_room h.0 h.1 (rw c.table-table.ensures.value at c.neighbours-row.ensures.value) c.args.other left (max_weight * c.args.over) c.args.after.now room.0 room.1).1

pub returns-clause-added_after : goal.returns-clause-added_after
returns-clause-added_after c =
    let h = asked c.table-table.ensures.network c.requires.end in
    let left = left_is h.0 h.1 (rw c.table-table.ensures.value at c.neighbours-row.ensures.value) c.args.other (written_front _ _ c.leave_out-many.ensures) in
    added_by c.args.over c.args.end (rw c.table-table.ensures.value at c.weight-weight.ensures.0) (rw c.table-table.ensures.value at c.need-need.ensures) left c.add_terms-2.ensures
