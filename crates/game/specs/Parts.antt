-- Islands of a game, and a game by other numbers.
-- Definitions only.
use Rattle.std.specs.Prelude.{List, ◌≡◌, ℕ, length}
use Rattle.lists.specs.Lists.{◌∈◌, has, Once, at}
use Rattle.lists.specs.Below.{list_below}
use Rattle.game.specs.Game.{Game}

-- the players `is` are an island of the players ps: a bus and its watcher stand in it both, or both outside
pub record Island (ps is : List ℕ) (g : Game) : Type 0 where
  pub once : Once is
  pub inside : (u : ℕ) → u ∈ is → u ∈ ps
  pub uncrossed : (u : ℕ) → u ∈ ps → (w : ℕ) → w ∈ g.watchers u → has w is ≡ has u is

-- h is the game g by other numbers: number u of the numbers qs stands for bus f u
pub record Renumbered (f : ℕ → ℕ) (qs : List ℕ) (g h : Game) : Type 0 where
  pub watchers : (u : ℕ) → u ∈ qs → (w : ℕ) → w ∈ qs → has w (h.watchers u) ≡ has (f w) (g.watchers (f u))
  pub needs : (u : ℕ) → u ∈ qs → h.need u ≡ g.need (f u)
  pub weights : (u : ℕ) → u ∈ qs → h.weight u ≡ g.weight (f u)

-- an island as a game of its own: its buses, in the order of the list, get the numbers 0, 1, ..
abbrev pub taken_out : List ℕ → Game → Game
taken_out is g = record {
  watchers = λ u. list_below (length is) (λ w. has (at is w) (g.watchers (at is u)));
  need = λ u. g.need (at is u);
  weight = λ u. g.weight (at is u);
}
