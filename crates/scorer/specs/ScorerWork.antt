-- What the scorer's functions promise one another when all buses are scored.
-- Definitions only.
use Rattle.std.specs.Prelude.{List, ℕ, ◌+◌, ◌^◌, ◌<◌, length}
use Rattle.lists.specs.Lists.{at}
use Rattle.table_spec.specs.Limits.{max_degree}

-- how many degrees a bus may have
abbrev pub degrees : ℕ
degrees = max_degree + 1

-- each of n buses has an entry, where x more fits
abbrev pub Room : ℕ → ℕ → List ℕ → Type 0
Room n x entries = (v : ℕ) → v < n → (v < length entries) × (at entries v + x < 2 ^ 64)
