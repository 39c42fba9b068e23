-- What calls on a bus of a table answer, for every slice and bus: why they are refused, and what Degree and Row give.
-- Definitions only.
use Rattle.std.specs.Prelude.{Bool, not, List, [], ◌∷◌, ◌≡◌, ℕ, ◌+◌, ◌≤◌, ltb, length}
use Rattle.lists.specs.Lists.{part}
use Rattle.refusals.specs.declared.Refusal.TheVariants.{NoNetwork, NoSuchBus}
use Rattle.refusals.specs.Outcomes.{Outcome, gives, refuses, Cause, ◌⇒◌, outcome, values_or}
use Rattle.table_spec.specs.Layout.{bus_count, needs, weights, row, row_start, degree}
use Rattle.table_spec.specs.Holds.{holds}

-- why any call on a table is refused: the slice holds no network, which is tested first; then the call's own causes
abbrev pub on_table : Bool → List Cause → List Cause
on_table held causes = (not held ⇒ NoNetwork) ∷ causes

-- of a call on a bus of n: the bus is n or above
abbrev pub bus_causes : Bool → ℕ → ℕ → List Cause
bus_causes held n bus = on_table held ((not (ltb bus n) ⇒ NoSuchBus) ∷ [])

abbrev pub degree_outcome : List ℕ → ℕ → Outcome ℕ
degree_outcome t bus = outcome (bus_causes (holds t) (bus_count t) bus) (degree t bus)

-- the neighbours of a bus; the empty part where Degree would refuse
abbrev pub row_outcome : List ℕ → ℕ → List ℕ
row_outcome t bus = values_or [] (outcome (bus_causes (holds t) (bus_count t) bus) (row t bus))

-- how many entries of the slice stand before that part: none where it is empty by refusal
abbrev pub row_before : List ℕ → ℕ → ℕ
row_before t bus = values_or 0 (outcome (bus_causes (holds t) (bus_count t) bus) (row_start t bus))

-- where the row of a bus begins in the slice, and how many entries it has: Row for callers who cannot be handed a part of a slice
abbrev pub row_place_outcome : List ℕ → ℕ → Outcome (ℕ × ℕ)
row_place_outcome t bus = outcome (bus_causes (holds t) (bus_count t) bus) (row_start t bus, degree t bus)

-- the entries at that place are what Row gives; where no place is given, Row gives the empty part
abbrev pub RowStands : List ℕ → ℕ → Outcome (ℕ × ℕ) → Type 0
RowStands t bus (gives (start, many)) = (start + many ≤ length t) × (part start (start + many) t ≡ row_outcome t bus)
RowStands t bus (refuses number) = row_outcome t bus ≡ []

-- two slices are the same network to every call, or both are none
pub record SameNetwork (a b : List ℕ) : Type 0 where
  pub judged : holds a ≡ holds b
  pub sizes : bus_count a ≡ bus_count b
  pub needed : needs a ≡ needs b
  pub weighed : weights a ≡ weights b
  pub rows : (i : ℕ) → row a i ≡ row b i
  pub degree_answers : (bus : ℕ) → degree_outcome a bus ≡ degree_outcome b bus
  pub row_answers : (bus : ℕ) → row_outcome a bus ≡ row_outcome b bus
  pub row_places : (bus : ℕ) → row_before a bus ≡ row_before b bus
  pub place_answers : (bus : ℕ) → row_place_outcome a bus ≡ row_place_outcome b bus
