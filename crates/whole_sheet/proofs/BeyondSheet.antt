-- Slices that begin with the same table get the same answer from the call for a whole sheet, and the same bytes.
use Rattle.std.specs.Prelude.{List, ◌++◌, ◌≡◌, ℕ, ◌≤◌, length}
use Rattle.std.proofs.Common.{ap}
use Rattle.table_spec.specs.Layout.{entries, starts_at}
use Rattle.two_way.specs.TwoWay.{network_of}
use Rattle.two_way.proofs.SameTable.{beyond_network}
use Rattle.whole_sheet.specs.WholeSheet.{sheet_outcome, sheet_after}

-- ENTRIES BEYOND THE TABLE NEVER MATTER, x or y
pub beyond_sheet : (t x y : List ℕ) → entries (starts_at t) t ≤ length t → (bytes : List ℕ)
    → (sheet_outcome (network_of (t ++ x)) (length bytes) ≡ sheet_outcome (network_of (t ++ y)) (length bytes))
    × (sheet_after (network_of (t ++ x)) bytes ≡ sheet_after (network_of (t ++ y)) bytes)
beyond_sheet t x y w bytes =
    let e = beyond_network t x y w in (ap (λ N. sheet_outcome N (length bytes)) e, ap (λ N. sheet_after N bytes) e)
