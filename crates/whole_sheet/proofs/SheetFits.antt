-- No network's sheet has more bytes than `longest_sheet`.
use Rattle.std.specs.Prelude.{true, List, ◌≡◌, refl, ℕ, ◌+◌, ◌≤◌, length}
use Rattle.std.proofs.Common.{sym, le_trans, arith}
use Rattle.lists.specs.Below.{join_below}
use Rattle.lists.proofs.SumsBelow.{sum_below-le, sum_below_const}
use Rattle.lists.proofs.JoinBelow.{length-join_below}
use Rattle.refusals.specs.Outcomes.{gives}
use Rattle.refusals.proofs.Due.{accept, not-below}
use Rattle.table_spec.proofs.TableCauses.{on_held}
use Rattle.share_spec.specs.Network.{Network}
use Rattle.sheet.specs.Sheet.{sheet_line}
use Rattle.sheet.specs.LineRoom.{longest_line, Short}
use Rattle.sheet.proofs.LineFits.{line_fits}
use Rattle.whole_sheet.specs.WholeSheet.{whole_sheet, sheet_outcome}
use Rattle.whole_sheet.specs.SheetRoom.{longest_sheet}
use Rattle.whole_sheet.proofs.SheetDue.{sheet_due}

module _ {N : Network} (w : Short N) where
  lines_fit : (m : ℕ) → m ≤ N.buses + 1 → length (join_below m (sheet_line N)) ≤ longest_sheet
  lines_fit m h =
      omega (arith, length-join_below m (sheet_line N), sum_below-le (λ i. length (sheet_line N i)) (λ i. longest_line) m (λ i b. line_fits w i (omega arith)), sum_below_const longest_line m, w.buses)

  -- EVERY SHEET FITS
  pub sheet_fits : length (whole_sheet N) ≤ longest_sheet
  sheet_fits = lines_fit _ (omega arith)

  -- so a call that is lent so many bytes is not refused for want of them
  pub never_short : (x : List ℕ) → N.held ≡ true → longest_sheet ≤ length x → sheet_outcome N (length x) ≡ gives (length (whole_sheet N))
  never_short x g h = sym (sheet_due N x (on_held g (not-below refl refl (le_trans sheet_fits h) (accept refl refl)))).0
