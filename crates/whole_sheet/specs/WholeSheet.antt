-- A network's whole share sheet, and what a call for it answers and writes, for every slice. Definitions only.
use Rattle.std.specs.Prelude.{List, ℕ, ◌+◌, length}
use Rattle.lists.specs.Below.{join_below}
use Rattle.refusals.specs.Outcomes.{Outcome, Cause, outcome, values_or}
use Rattle.table_spec.specs.TableOutcomes.{on_table}
use Rattle.share_spec.specs.Network.{Network}
use Rattle.sheet.specs.Sheet.{sheet_line}
use Rattle.sheet.specs.LineOutcomes.{text_causes, written}

-- sheet lines 0 to n
abbrev pub whole_sheet : Network → List ℕ
whole_sheet N = join_below (N.buses + 1) (sheet_line N)

-- refused as any call on a table is; then as for any text
abbrev pub sheet_causes : Network → ℕ → List Cause
sheet_causes N lent = on_table N.held (text_causes (whole_sheet N) lent)

abbrev pub sheet_outcome : Network → ℕ → Outcome ℕ
sheet_outcome N lent = outcome (sheet_causes N lent) (length (whole_sheet N))

-- what bytes that held x hold afterwards: accepted, the sheet is written at their front; refused, what they held
abbrev pub sheet_after : Network → List ℕ → List ℕ
sheet_after N x = values_or x (outcome (sheet_causes N (length x)) (written (whole_sheet N) x))
