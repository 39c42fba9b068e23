use Rattle.std.proofs.Common.{◌≡◌, true}
use Rattle.lists.specs.Lists.{at}
use Rattle.lists.specs.Below.{all_below}
use Rattle.table_spec.specs.Layout.{row_at}
use Rattle.table_check.specs.Cursors.{is_at}
use Rattle.table_check.proofs.Mirror.{Moved}
use Rattle.table_check.proofs.mirrors.matched.Given as goal

-- The neighbours passed have the bus at their cursors, and these cursors have moved.
abbrev pub invariant-loop-neighbour : goal.invariant-loop-neighbour
invariant-loop-neighbour l =
    (all_below l.neighbour-index (λ q. is_at (row_at l.starts l.numbers (at l.row q)) (at l.initial.cursors (at l.row q)) l.bus) ≡ true)
    × Moved l.row l.neighbour-index l.initial.cursors l.cursors
