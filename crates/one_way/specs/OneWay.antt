-- The network that a table of one-way lines holds: row i lists the buses that lead into bus i, which watch it. No mirrored entry is required.
-- Definitions only.
use Rattle.std.specs.Prelude.{Bool, ◌&&◌, List, ℕ}
use Rattle.table_spec.specs.Layout.{bus_count, needs, starts, last, neighbour_numbers, starts_at, row, degree}
use Rattle.table_spec.specs.Holds.{sound_buses, sound_rows, needs_can_be_met}
use Rattle.share_spec.specs.Network.{Network, converse}
use Rattle.share_spec.specs.TableNetwork.{table_network}

-- a slice holds a network of one-way lines; the degree of a bus is how many buses lead into it
unfoldable pub holds_one_way : List ℕ → Bool
holds_one_way t =
    sound_buses t && sound_rows (bus_count t) (starts (starts_at t) t) (neighbour_numbers (starts_at t) t)
    && needs_can_be_met (bus_count t) (needs t) (degree t)

-- neighbour terms run over the buses that a bus leads into
abbrev pub one_way : List ℕ → Network
one_way t = table_network t (holds_one_way t) (last (starts_at t) t) (converse (bus_count t) (row t))
