use Rattle.std.proofs.Common.{◌≡◌, ℕ, ◌<◌, length}
use Rattle.lists.specs.Lists.{◌∈◌}
use Rattle.table_spec.specs.Limits.{max_buses}
use Rattle.table_spec.specs.Layout.{row_at}
use Rattle.table_spec.specs.Holds.{Mirrored}
use Rattle.table_check.proofs.Mirror.{Marks}
use Rattle.table_check.proofs.mirrors.mirrored.Given as goal

-- Each bus passed stands in the rows of its neighbours, and the cursors stand where the rest of the rows begins.
abbrev pub invariant-loop-bus : goal.invariant-loop-bus
invariant-loop-bus l =
    ((a : ℕ) → a < l.bus → (j : ℕ) → j ∈ row_at l.starts l.numbers a → a ∈ row_at l.starts l.numbers j)
    × (length l.cursors ≡ max_buses)
    × (Mirrored l.n l.starts l.numbers → Marks l.n l.starts l.numbers l.bus l.cursors)
