-- The game by reach.
-- Definitions only.
use Rattle.std.specs.Prelude.{List, [], ◌∷◌, ℕ}
use Rattle.lists.specs.Lists.{◌∈◌, Once, without}
use Rattle.game.specs.Game.{Game}

-- a bus is seen by a recorder in its crowd, to which it belongs. So the others of its crowd watch it, and it needs one
abbrev pub reach : (ℕ → List ℕ) → (ℕ → ℕ) → Game
reach crowd weight = record { watchers = λ u. without (u ∷ []) (crowd u); need = λ u. 1; weight = weight }

-- no player stands in the list twice, and the crowd of each is of players, each listed once, and itself among them
pub record Crowds (ps : List ℕ) (crowd : ℕ → List ℕ) : Type 0 where
  pub once : Once ps
  pub crowd_once : (u : ℕ) → u ∈ ps → Once (crowd u)
  pub crowd_inside : (u : ℕ) → u ∈ ps → (w : ℕ) → w ∈ crowd u → w ∈ ps
  pub crowd_own : (u : ℕ) → u ∈ ps → u ∈ crowd u
