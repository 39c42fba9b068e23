use Rattle.std.proofs.Common.{List, ℕ, ◌≤◌, ◌<◌}
use Rattle.table_spec.specs.Limits.{max_buses}
use Rattle.table_spec.specs.Layout.{bus_count, lines}
use Rattle.table_spec.specs.Holds.{Holds}
use Rattle.outage.proofs.Studying.{zeros_room, lower_asked, upper_asked, lower_divided, upper_divided, with_room, without_room, sums_fit, changes_stored}
use Rattle.outage.proofs.study_network_over.Goals as goal

-- what is asked of a network and its line
asked : {t : List ℕ} {k m : ℕ} → Holds t → (k < lines t) × (bus_count t ≤ m) → Holds t × (k < lines t) × (bus_count t ≤ m)
asked w r = (w, r.0, r.1)

pub add_end-requires-clause-end : goal.add_end-requires-clause-end
add_end-requires-clause-end c = lower_asked (asked c.table-table.ensures.network c.requires.line) c.ends_of-lower.ensures c.requires.whole

pub add_end-requires-clause-divided : goal.add_end-requires-clause-divided
add_end-requires-clause-divided c = lower_divided (asked c.table-table.ensures.network c.requires.line) c.ends_of-lower.ensures c.requires.whole

pub add_end-requires-clause-room_before : goal.add_end-requires-clause-room_before
add_end-requires-clause-room_before c = (zeros_room max_buses c.requires.whole.0.bounded, c.table-table.ensures.network.shape.complete.most)

pub add_end-requires-clause-room_after : goal.add_end-requires-clause-room_after
add_end-requires-clause-room_after c = (zeros_room max_buses c.requires.whole.0.bounded, c.table-table.ensures.network.shape.complete.most)

pub add_end-requires-2-clause-end : goal.add_end-requires-2-clause-end
add_end-requires-2-clause-end c = upper_asked (asked c.table-table.ensures.network c.requires.line) c.ends_of-lower.ensures c.requires.whole

pub add_end-requires-2-clause-divided : goal.add_end-requires-2-clause-divided
add_end-requires-2-clause-divided c = upper_divided (asked c.table-table.ensures.network c.requires.line) c.ends_of-lower.ensures c.requires.whole

pub add_end-requires-2-clause-room_before : goal.add_end-requires-2-clause-room_before
add_end-requires-2-clause-room_before c = with_room (asked c.table-table.ensures.network c.requires.line) c.ends_of-lower.ensures c.requires.whole c.add_end.ensures.added_before

pub add_end-requires-2-clause-room_after : goal.add_end-requires-2-clause-room_after
add_end-requires-2-clause-room_after c = without_room (asked c.table-table.ensures.network c.requires.line) c.ends_of-lower.ensures c.requires.whole c.add_end.ensures.added_after

pub store-requires-clause-small : goal.store-requires-clause-small
store-requires-clause-small c =
    let lower = c.add_end.ensures in
    let upper = c.add_end-2.ensures in
    sums_fit (asked c.table-table.ensures.network c.requires.line) c.ends_of-lower.ensures c.requires.whole lower.added_before lower.added_after upper.added_before upper.added_after

pub returns : goal.returns
returns c =
    let lower = c.add_end.ensures in
    let upper = c.add_end-2.ensures in
    changes_stored (asked c.table-table.ensures.network c.requires.line) c.ends_of-lower.ensures c.requires.whole lower.added_before lower.added_after upper.added_before upper.added_after
    c.args.changes.now (rw c.table-table.ensures.value at c.buses.ensures.value) c.store.ensures
