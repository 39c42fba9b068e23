-- A row stands at the place that is given for it.
use Rattle.std.specs.Prelude.{List, ◌≡◌, ℕ, ltb}
use Rattle.std.proofs.Common.{sym, subst, ltb-true}
use Rattle.lists.proofs.Tests.{split}
use Rattle.refusals.specs.Outcomes.{Outcome}
use Rattle.refusals.specs.Due.{Answered}
use Rattle.table_spec.specs.Layout.{bus_count, row_start, degree}
use Rattle.table_spec.specs.Holds.{holds}
use Rattle.table_spec.specs.TableOutcomes.{bus_causes, row_place_outcome, RowStands}
use Rattle.table_spec.proofs.Rows.{row_within, row_stands}
use Rattle.table_spec.proofs.Facts.{holds_facts}

-- THE ROW STANDS THERE: the place that is given for a row holds it, whatever the slice and the bus
pub row_placed : (t : List ℕ) (bus : ℕ) → RowStands t bus (row_place_outcome t bus)
row_placed t bus =
    split (holds t)
    (λ h. split (ltb bus (bus_count t))
    (λ g.
    let w = (holds_facts t h).shape in
    let b = ltb-true bus (bus_count t) g in
    rw (h, g) (row_within t w bus b, rw (h, g) (row_stands t w bus b)))
    (λ g. rw (h, g) (rw (h, g))))
    (λ h. rw h (rw h))

-- so a place that is answered as it is due holds the row
pub placed : (t : List ℕ) (bus : ℕ) {o : Outcome (ℕ × ℕ)} → Answered (bus_causes (holds t) (bus_count t) bus) (row_start t bus, degree t bus) o
    → (o ≡ row_place_outcome t bus) × RowStands t bus o
placed t bus d = (d.answered, subst (RowStands t bus) (sym d.answered) (row_placed t bus))
