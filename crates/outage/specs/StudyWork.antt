-- What the study's functions ask of one another.
-- Definitions only.
use Rattle.std.specs.Prelude.{List, ℕ, ◌+◌, ◌^◌, ◌≤◌, ◌<◌, length}
use Rattle.lists.specs.Lists.{at}

-- in a row the buses above this one begin at place k
pub record Above (r : List ℕ) (bus k : ℕ) : Type 0 where
  pub inside : k ≤ length r
  pub before : (i : ℕ) → i < k → at r i ≤ bus
  pub behind : (i : ℕ) → k ≤ i → i < length r → bus < at r i

-- x more fits into each sum
abbrev pub Room : ℕ → List ℕ → Type 0
Room x sums = (v : ℕ) → at sums v + x < 2 ^ 64
