-- Numerators and lines, as code stores and writes them.
use Rattle.std.specs.Prelude.{List, ℕ, suc}
use Rattle.lists.specs.Below.{join_below}
use Rattle.share_spec.specs.Network.{Network}
use Rattle.sheet.specs.Sheet.{sheet_line}

-- the lines of the first n buses
abbrev pub bus_lines : Network → ℕ → List ℕ
bus_lines N n = join_below n (λ v. sheet_line N (suc v))
