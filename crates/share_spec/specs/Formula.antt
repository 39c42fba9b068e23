-- Shares of the buses of a network: the scope's closed formula over the common denominator, and what is fair.
-- Definitions only.
use Rattle.std.specs.Prelude.{ℕ, ◌+◌}
use Rattle.std.specs.Int.{◌∣◌}
use Rattle.lists.specs.Lists.{sum_by, ◌∈◌}
use Rattle.game.specs.Game.{own, neighbour, Fair}
use Rattle.share_spec.specs.Network.{Network, denominator}

-- ---- the common denominator

-- every number that L is to be a multiple of divides m
abbrev pub DividedByAll : Network → ℕ → Type 0
DividedByAll N m = (k : ℕ) → k ∈ N.divisors → k ∣ m

-- L is the least common multiple of these numbers: all of them divide it, and it divides every number that all of them divide
pub record CommonDenominator (N : Network) (L : ℕ) : Type 0 where
  pub common : DividedByAll N L
  pub least : (m : ℕ) → DividedByAll N m → L ∣ m

-- ---- the closed formula

-- the share of bus v, times L: its own term, and a term for each bus that it watches, which goes by that bus's need and degree, not by its own
unfoldable pub numerator_over : Network → ℕ → ℕ → ℕ
numerator_over N L v = own N.game L v + sum_by (neighbour N.game L) (N.watched v)

-- over the network's own L
abbrev pub numerator : Network → ℕ → ℕ
numerator N v = numerator_over N (denominator N) v

-- ---- fairness

-- the third demand, for one bus: L is the common denominator, and x over L is the average of v's gains over all orders of fitting the n buses, each taken once
pub record FairShare (N : Network) (L v x : ℕ) : Type 0 where
  pub over : CommonDenominator N L
  pub average : Fair N.buses N.game L v x
