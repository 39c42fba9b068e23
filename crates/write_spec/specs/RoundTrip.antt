-- What Read and the writer give back of one another's: two claims, on the outcomes of the two calls.
-- Definitions only.
use Rattle.std.specs.Prelude.{false, List, ◌≡◌, ℕ, ◌<◌, length, take}
use Rattle.lists.specs.Lists.{at, put}
use Rattle.refusals.specs.Outcomes.{gives}
use Rattle.table_spec.specs.Layout.{bus_count, lines, table_entries}
use Rattle.file_spec.specs.FileBytes.{file_line_count, records_end, file_weights}
use Rattle.file_spec.specs.Records.{file_pair_count}
use Rattle.read_spec.specs.ReadOutcome.{read_outcome, table_after}
use Rattle.write_spec.specs.FileOf.{all_ones}
use Rattle.write_spec.specs.WriteOutcome.{write_outcome, bytes_after}

-- the entries of the table that a slice begins with
abbrev pub table_in : List ℕ → List ℕ
table_in t = take (table_entries (bus_count t) (lines t)) t

-- Read of the file f into a slice that held x gives n and m of the network in t, and stores its table over the front of x
pub record ReadBack (t f x : List ℕ) : Type 0 where
  pub answer : read_outcome f (length x) ≡ gives (record { buses = bus_count t; lines = lines t })
  pub stored : table_after f x ≡ put x 0 (table_in t)

-- every entry is a byte, as in a file that is lent; past its end a list has zeros
abbrev pub AreBytes : List ℕ → Type 0
AreBytes f = (k : ℕ) → at f k < 256

-- no pair has two records: there are as many different pairs as records
abbrev pub NoParallels : List ℕ → Type 0
NoParallels f = file_pair_count f ≡ file_line_count f

-- no section says that all weights are 1: if the file goes on behind its records, some weight is another
abbrev pub NoOnesSection : List ℕ → Type 0
NoOnesSection f = records_end f < length f → all_ones (file_weights f) ≡ false

-- the writer, lent bytes that held y, gives the byte count of the file f for the slice t, and writes f over the front of y
pub record GivenBack (f t y : List ℕ) : Type 0 where
  pub answer : write_outcome t (length y) ≡ gives (length f)
  pub written : bytes_after t y ≡ put y 0 f
