-- A network as calls and claims see it, whatever table it stands in. Each kind of table says which network a slice holds.
-- Definitions only.
use Rattle.std.specs.Prelude.{Bool, List, ◌≡◌, ℕ, ◌<◌}
use Rattle.lists.specs.Lists.{◌∈◌, has, Once}
use Rattle.lists.specs.Below.{sum_below, list_below, range}
use Rattle.fraction.specs.Divisors.{lcm_all}
use Rattle.game.specs.Game.{Game, GameOn, Common}

pub record Network : Type 0 where
  -- does the slice hold a network?
  pub held : Bool
  -- n, the buses, and m, the lines
  pub buses : ℕ
  pub lines : ℕ
  -- what stands in the need's column of its sheet, and in the degree's
  pub need_column : ℕ → ℕ
  pub degree_column : ℕ → ℕ
  -- who watches a bus, how many of them it needs, and its weight
  pub game : Game
  -- the other way round, the buses that a bus watches: its share has a term for each
  pub watched : ℕ → List ℕ
  -- L is the least common multiple of these numbers
  pub divisors : List ℕ

abbrev pub denominator : Network → ℕ
denominator N = lcm_all N.divisors

-- the weights of all buses, added up
unfoldable pub total_weight : Network → ℕ
total_weight N = sum_below N.buses N.game.weight

-- the buses below n in whose list v stands
abbrev pub converse : ℕ → (ℕ → List ℕ) → ℕ → List ℕ
converse n lists v = list_below n (λ u. has v (lists u))

-- ---- what a kind of table shows of the networks that it holds

-- the game is one on the n buses, and the buses that v watches are just those that it is a watcher of, each listed once
pub record Watching (N : Network) : Type 0 where
  pub on : GameOn (range N.buses) N.game
  pub once : (v : ℕ) → v < N.buses → Once (N.watched v)
  pub inside : (v : ℕ) → v < N.buses → (u : ℕ) → u ∈ N.watched v → u < N.buses
  pub both : (u v : ℕ) → u < N.buses → v < N.buses → has v (N.game.watchers u) ≡ has u (N.watched v)

-- L makes every term whole
abbrev pub WholeOver : Network → ℕ → Type 0
WholeOver N L = Common (range N.buses) N.game L

-- so its shares are defined over its own L, which is not 0
pub record Sound (N : Network) : Type 0 where
  pub watching : Watching N
  pub positive : 0 < denominator N
  pub whole : WholeOver N (denominator N)
