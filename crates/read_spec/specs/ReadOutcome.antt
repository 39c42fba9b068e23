-- What Read answers and stores, for every file and every lent slice.
-- Definitions only.
use Rattle.std.specs.Prelude.{not, List, [], ◌∷◌, ◌++◌, ◌≡◌, ℕ, ◌<◌, ltb, length, drop}
use Rattle.lists.specs.Lists.{has}
use Rattle.refusals.specs.declared.Refusal.TheVariants.{LineEnds, DegreeTooHigh, TableTooShort, OutOfOrder, NeedAboveDegree}
use Rattle.refusals.specs.Outcomes.{Outcome, gives, refuses, Cause, ◌⇒◌, outcome, values_or}
use Rattle.table_spec.specs.Layout.{bus_count, needs, weights, row, lines, table_entries, table_of}
use Rattle.table_spec.specs.Holds.{Holds}
use Rattle.network.specs.declared.Counts.{Counts}
use Rattle.file_spec.specs.FileBytes.{file_bus_count, need_bytes, file_line_count, records, file_weights}
use Rattle.file_spec.specs.Sections.{section_causes, sound_ends}
use Rattle.file_spec.specs.RecordOrder.{out_of_order}
use Rattle.file_spec.specs.Records.{joined, neighbours, degree_too_high, need_above_degree, pair_count, file_pair_count}

-- a record names a bus of n or above, or one bus twice
abbrev pub ends_causes : ℕ → ℕ → List ℕ → List Cause
ends_causes n m r = (not (sound_ends n m r) ⇒ LineEnds) ∷ []

-- a record names its higher bus first, or is below the one before it
abbrev pub order_causes : ℕ → List ℕ → List Cause
order_causes m r = (out_of_order m r ⇒ OutOfOrder) ∷ []

-- a bus has too many different neighbours
abbrev pub degree_causes : ℕ → ℕ → List ℕ → List Cause
degree_causes n m r = (degree_too_high n m r ⇒ DegreeTooHigh) ∷ []

-- a need of q cannot be met
abbrev pub need_causes : ℕ → List ℕ → ℕ → List ℕ → List Cause
need_causes n q m r = (need_above_degree n q m r ⇒ NeedAboveDegree) ∷ []

-- too few entries are lent for the table of n buses and m lines
abbrev pub room_causes : ℕ → ℕ → ℕ → List Cause
room_causes n m lent = (ltb lent (table_entries n m) ⇒ TableTooShort) ∷ []

-- each over all records before the next, and the needs behind 7; the table has a line for each different pair
abbrev pub record_causes : ℕ → List ℕ → ℕ → List ℕ → ℕ → List Cause
record_causes n q m r lent = ends_causes n m r ++ order_causes m r ++ degree_causes n m r ++ need_causes n q m r ++ room_causes n (pair_count m r) lent

-- Read checks in file order, then the records
abbrev pub read_causes : List ℕ → ℕ → List Cause
read_causes f lent = section_causes f ++ record_causes (file_bus_count f) (need_bytes f) (file_line_count f) (records f) lent

-- n and m of the file's network: its buses, and its different pairs
abbrev pub network_counts : List ℕ → Counts
network_counts f = record { buses = file_bus_count f; lines = file_pair_count f }

-- these, or the number of the first cause
abbrev pub read_outcome : List ℕ → ℕ → Outcome Counts
read_outcome f lent = outcome (read_causes f lent) (network_counts f)

-- the file's table: its buses, the needs as recorded, the weights, and for each bus the neighbours that the records give it
unfoldable pub file_table : List ℕ → List ℕ
file_table f = table_of (file_bus_count f) (need_bytes f) (file_weights f) (neighbours (file_bus_count f) (file_line_count f) (records f))

-- in a slice that held t: the file's table, followed by the old rest
unfoldable pub stored_table : List ℕ → List ℕ → List ℕ
stored_table f t = file_table f ++ drop (length (file_table f)) t

-- what a lent slice that held t holds after Read: accepted, the file's table is stored; refused, what it held
abbrev pub table_after : List ℕ → List ℕ → List ℕ
table_after f t = values_or t (outcome (read_causes f (length t)) (stored_table f t))

-- the slice t holds exactly the buses, needs, weights and different pairs that the file f records, and c are its counts
pub record AsRecorded (f : List ℕ) (c : Counts) (t : List ℕ) : Type 0 where
  pub holding : Holds t
  pub buses : bus_count t ≡ file_bus_count f
  pub needed : needs t ≡ need_bytes f
  pub weighed : weights t ≡ file_weights f
  pub lined : lines t ≡ file_pair_count f
  pub joining : (i j : ℕ) → i < file_bus_count f → has j (row t i) ≡ joined (file_line_count f) (records f) i j
  pub counted : c ≡ record { buses = bus_count t; lines = lines t }

-- so it is where the answer accepts the file; where it refuses, the slice holds what it held
abbrev pub Recorded : List ℕ → List ℕ → Outcome Counts → List ℕ → Type 0
Recorded f t (gives c) t' = AsRecorded f c t'
Recorded f t (refuses number) t' = t' ≡ t
