-- What each bus gives to the numerators: its own term to its own, and its neighbour's term to that of each of its watchers. Added up over all buses
-- that is the closed formula.
use Rattle.std.specs.Prelude.{List, ℕ, ◌+◌, ◌*◌, eqb, length}
use Rattle.lists.specs.Lists.{indicator, count}
use Rattle.lists.specs.Below.{sum_below}
use Rattle.game.specs.Game.{Game, own_term, neighbour_term, own, neighbour}

-- what bus u gives to the numerator of bus v, over L
unfoldable pub term_to : Game → ℕ → ℕ → ℕ → ℕ
term_to g L u v = own g L u * indicator (eqb v u) + neighbour g L u * count v (g.watchers u)

-- the same by the weight w, the need k and the row r of bus u
unfoldable pub terms_from : ℕ → ℕ → List ℕ → ℕ → ℕ → ℕ → ℕ
terms_from w k r L u v = w * own_term k (length r) L * indicator (eqb v u) + w * neighbour_term k (length r) L * count v r

-- what the first m buses give to the numerator of bus v
abbrev pub given_by : Game → ℕ → ℕ → ℕ → ℕ
given_by g L m v = sum_below m (λ u. term_to g L u v)
