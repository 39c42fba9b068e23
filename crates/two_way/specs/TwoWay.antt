-- The network that a line table holds: a bus is watched by its neighbours, and watches them.
-- Definitions only.
use Rattle.std.specs.Prelude.{List, ℕ}
use Rattle.table_spec.specs.Layout.{row, lines}
use Rattle.table_spec.specs.Holds.{holds}
use Rattle.share_spec.specs.Network.{Network}
use Rattle.share_spec.specs.TableNetwork.{table_network}

abbrev pub network_of : List ℕ → Network
network_of t = table_network t (holds t) (lines t) (row t)
