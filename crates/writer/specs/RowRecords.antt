-- The records of one row, as the writer goes along it.
-- Definitions only.
use Rattle.std.specs.Prelude.{cond, List, [], ℕ, ltb, length}
use Rattle.lists.specs.Lists.{at}
use Rattle.lists.specs.Below.{join_below}
use Rattle.write_spec.specs.FileOf.{record_of}

-- the record of bus i with bus j, if that is above it
unfoldable pub record_above : ℕ → ℕ → List ℕ
record_above i j = cond (ltb i j) (record_of i j) []

-- the records of bus i with its neighbours r
unfoldable pub row_records : ℕ → List ℕ → List ℕ
row_records i r = join_below (length r) (λ k. record_above i (at r k))
