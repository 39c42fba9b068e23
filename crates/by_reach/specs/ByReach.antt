-- The network of n buses that are seen by reach: the others of its crowd watch a bus, which needs one of them.
-- Definitions only.
use Rattle.std.specs.Prelude.{Bool, List, ℕ, length}
use Rattle.lists.specs.Below.{map_below}
use Rattle.game.specs.CrowdGame.{reach}
use Rattle.share_spec.specs.Network.{Network, converse}

-- held, n, m, reaches, degrees and crowds are what a table of this kind will say; L is the least common multiple of crowd sizes
abbrev pub by_reach : Bool → ℕ → ℕ → (ℕ → ℕ) → (ℕ → ℕ) → (ℕ → List ℕ) → Network
by_reach held n m reaches degrees crowd = record {
  held = held;
  buses = n;
  lines = m;
  need_column = reaches;
  degree_column = degrees;
  game = reach crowd (λ u. 1);
  watched = converse n (reach crowd (λ u. 1)).watchers;
  divisors = map_below n (λ u. length (crowd u));
}
