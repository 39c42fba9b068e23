-- How the call for a whole sheet comes out.
use Rattle.std.specs.Prelude.{false, List, ◌≡◌, ℕ, length}
use Rattle.refusals.specs.Outcomes.{Outcome, refuses}
use Rattle.refusals.specs.Due.{Due}
use Rattle.refusals.proofs.Due.{both}
use Rattle.table_spec.proofs.TableCauses.{no_network}
use Rattle.share_spec.specs.Network.{Network}
use Rattle.sheet.specs.LineOutcomes.{written}
use Rattle.whole_sheet.specs.WholeSheet.{whole_sheet, sheet_causes, sheet_outcome, sheet_after}

-- what is due for the sheet is answered and written
pub sheet_due : (N : Network) (x : List ℕ) {o : Outcome ℕ} {y : List ℕ} → Due (sheet_causes N (length x)) (length (whole_sheet N)) (written (whole_sheet N) x) x o y
    → (o ≡ sheet_outcome N (length x)) × (y ≡ sheet_after N x)
sheet_due N x d = both d

-- so a slice that holds no network is refused, however few bytes are lent, and they are kept
pub none_held : (N : Network) (x : List ℕ) → N.held ≡ false → (refuses 11 ≡ sheet_outcome N (length x)) × (x ≡ sheet_after N x)
none_held N x h = sheet_due N x (no_network h)
