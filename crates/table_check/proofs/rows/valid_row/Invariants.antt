use Rattle.table_check.proofs.ValidEntries.{Passed}
use Rattle.table_check.proofs.rows.valid_row.Given as goal

-- The entries passed are valid, and below `least`.
abbrev pub invariant-loop-neighbour : goal.invariant-loop-neighbour
invariant-loop-neighbour l = Passed l.n l.bus l.row l.neighbour-index l.least
