-- What the steps that read records in order promise one another.
-- Definitions only.
use Rattle.std.specs.Prelude.{Bool, ◌&&◌, List, ◌≡◌, ℕ, ◌-◌, ltb, eqb, length}
use Rattle.lists.specs.Lists.{Tabled}
use Rattle.table_spec.specs.Limits.{max_buses}
use Rattle.file_spec.specs.FileBytes.{first_end, second_end}
use Rattle.file_spec.specs.Records.{neighbours}

-- record k equals the one before it
unfoldable pub equals_last : List ℕ → ℕ → Bool
equals_last r k = ltb 0 k && (eqb (first_end r k) (first_end r (k - 1)) && eqb (second_end r k) (second_end r (k - 1)))

-- each of n buses has so many different neighbours, by the first k records
pub record NeighbourCounts (n k : ℕ) (r counts : List ℕ) : Type 0 where
  pub size : length counts ≡ max_buses
  pub each : Tabled n (λ i. length (neighbours n k r i)) counts
