-- What a table of a slice knows: that the slice can be scored, and which parts of it are whose.
-- Definitions only.
use Rattle.std.specs.Prelude.{List, ◌≡◌, ℕ}
use Rattle.table_spec.specs.Layout.{needs, weights, starts, starts_at, neighbour_numbers}
use Rattle.table_spec.specs.Holds.{Scorable}

-- the slice t can be scored, and q, w, s and l are its needs, weights, row starts and neighbour numbers
pub record TableParts (t q w s l : List ℕ) : Type 0 where
  pub scorable : Scorable t
  pub needed : q ≡ needs t
  pub weighed : w ≡ weights t
  pub started : s ≡ starts (starts_at t) t
  pub numbered : l ≡ neighbour_numbers (starts_at t) t
