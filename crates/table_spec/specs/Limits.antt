-- The limits of a network, for contracts to cite. The code has them as constants of `Network`, and it is proved that they are these:
-- `Network::limits` says so, and no test of a table would be proved with another.
-- Definitions only.
use Rattle.std.specs.Prelude.{ℕ, ◌+◌, ◌*◌, ◌/◌}
use Rattle.table_spec.specs.Layout.{table_entries}

-- buses of a network
abbrev pub max_buses : ℕ
max_buses = 512

-- lines at a bus
abbrev pub max_degree : ℕ
max_degree = 23

-- need of a bus
abbrev pub max_need : ℕ
max_need = 24

-- weight of a bus
abbrev pub max_weight : ℕ
max_weight = 1000

-- lines of a network: each stands at two buses
abbrev pub max_lines : ℕ
max_lines = max_buses * max_degree / 2

-- entries of a line table
abbrev pub max_entries : ℕ
max_entries = table_entries max_buses max_lines

-- bytes of a network file: three counts of two bytes, a byte for each need, a record of four for each line, two for each weight
abbrev pub max_bytes : ℕ
max_bytes = 2 + max_buses + 2 + 4 * max_lines + 2 + 2 * max_buses
