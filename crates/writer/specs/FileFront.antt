-- The file of a network up to its weights.
-- Definitions only.
use Rattle.std.specs.Prelude.{List, ◌++◌, ℕ}
use Rattle.table_spec.specs.Layout.{bus_count, needs, row, lines}
use Rattle.write_spec.specs.FileOf.{word, pair_records}

-- the bus count, the needs, the number of lines and their records
unfoldable pub front_of : List ℕ → List ℕ
front_of t = word (bus_count t) ++ (needs t ++ (word (lines t) ++ pair_records (bus_count t) (row t)))
