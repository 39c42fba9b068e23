-- What a line table has for a network, whichever way its lines run: a bus is watched by the buses of its row.
-- Definitions only.
use Rattle.std.specs.Prelude.{Bool, List, ℕ, suc, ◌+◌, ◌*◌, ◌≤◌, ◌<◌}
use Rattle.std.specs.Int.{◌∣◌}
use Rattle.lists.specs.Below.{largest_below, map_below}
use Rattle.game.specs.Game.{Game}
use Rattle.table_spec.specs.Layout.{bus_count, row, degree, need, weight}
use Rattle.share_spec.specs.Network.{Network}

-- to see a bus is worth its weight
abbrev pub game_of : List ℕ → Game
game_of t = record { watchers = row t; need = need t; weight = weight t }

unfoldable pub largest_degree : List ℕ → ℕ
largest_degree t = largest_below (bus_count t) (degree t)

-- what L is the least common multiple of: all whole numbers from 1 to 1 plus the largest degree
unfoldable pub divisors_of : List ℕ → List ℕ
divisors_of t = map_below (1 + largest_degree t) suc

-- the network of a table; whether the slice holds one, how many lines it has and whom a bus watches go by which way its lines run
abbrev pub table_network : List ℕ → Bool → ℕ → (ℕ → List ℕ) → Network
table_network t held lines watched = record {
  held = held;
  buses = bus_count t;
  lines = lines;
  need_column = need t;
  degree_column = degree t;
  game = game_of t;
  watched = watched;
  divisors = divisors_of t;
}

-- the largest L, that of the most lines at a bus
abbrev pub max_denominator : ℕ
max_denominator = 5354228880

-- what the scorer asks of L, the network's own or another's: d(d+1) divides it for each degree d above 0, and it is not above the largest
pub record Over (t : List ℕ) (L : ℕ) : Type 0 where
  pub divided : (u : ℕ) → u < bus_count t → 0 < degree t u → degree t u * (degree t u + 1) ∣ L
  pub bounded : L ≤ max_denominator
