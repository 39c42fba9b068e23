-- What work functions ask for: room for every line. Definitions only.
use Rattle.std.specs.Prelude.{ℕ, ◌*◌, ◌^◌, ◌≤◌, ◌<◌}
use Rattle.table_spec.specs.Limits.{max_buses, max_degree, max_need, max_weight}
use Rattle.share_spec.specs.Network.{Network, denominator, total_weight, Sound}
use Rattle.share_spec.specs.TableNetwork.{max_denominator}

-- bytes that are enough for every line: none has more digits than `511 24 23 2741365186560000 2741365186560000/5354228880`
abbrev pub longest_line : ℕ
longest_line = 55

-- a network with shares whose numbers have no more digits than these
pub record Short (N : Network) : Type 0 where
  pub sound : Sound N
  pub buses : N.buses ≤ max_buses
  pub lines : N.lines < 10 ^ 5
  pub need_column : (v : ℕ) → v < N.buses → N.need_column v ≤ max_need
  pub degree_column : (v : ℕ) → v < N.buses → N.degree_column v ≤ max_degree
  pub over : denominator N ≤ max_denominator
  pub total_weight : total_weight N ≤ max_buses * max_weight
