-- What functions that add to the entries of a slice promise one another.
-- Definitions only.
use Rattle.std.specs.Prelude.{List, ◌≡◌, ℕ, ◌+◌, length}
use Rattle.lists.specs.Lists.{at}

-- f x was added to each entry x
pub record Added (f : ℕ → ℕ) (before after : List ℕ) : Type 0 where
  pub long : length after ≡ length before
  pub each : (x : ℕ) → at after x ≡ at before x + f x
