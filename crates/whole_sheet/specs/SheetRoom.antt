-- What work functions ask for and promise: room for every sheet, and a network that is scored. Definitions only.
use Rattle.std.specs.Prelude.{List, ◌≡◌, ℕ, ◌+◌, ◌*◌, ◌≤◌, length}
use Rattle.lists.specs.Lists.{Tabled}
use Rattle.table_spec.specs.Limits.{max_buses}
use Rattle.share_spec.specs.Network.{Network, denominator}
use Rattle.share_spec.specs.Formula.{numerator}
use Rattle.sheet.specs.LineRoom.{longest_line}

-- bytes that are enough for every sheet: the heading, and a line for each bus
abbrev pub longest_sheet : ℕ
longest_sheet = longest_line * (1 + max_buses)

-- a network that is scored: its L, and the numerators of its buses
pub record Scored (N : Network) (L : ℕ) (numerators : List ℕ) : Type 0 where
  pub over : L ≡ denominator N
  pub long : N.buses ≤ length numerators
  pub each : Tabled N.buses (numerator N) numerators
