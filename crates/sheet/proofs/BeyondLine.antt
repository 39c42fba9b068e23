-- Slices that begin with the same table get the same answer from Sheet line, and the same bytes.
use Rattle.std.specs.Prelude.{List, ◌++◌, ◌≡◌, ℕ, ◌≤◌, length}
use Rattle.std.proofs.Common.{ap}
use Rattle.table_spec.specs.Layout.{entries, starts_at}
use Rattle.two_way.specs.TwoWay.{network_of}
use Rattle.two_way.proofs.SameTable.{beyond_network}
use Rattle.sheet.specs.LineOutcomes.{line_outcome, line_after}

-- ENTRIES BEYOND THE TABLE NEVER MATTER, x or y
pub beyond_line : (t x y : List ℕ) → entries (starts_at t) t ≤ length t → (i : ℕ) (bytes : List ℕ)
    → (line_outcome (network_of (t ++ x)) i (length bytes) ≡ line_outcome (network_of (t ++ y)) i (length bytes))
    × (line_after (network_of (t ++ x)) i bytes ≡ line_after (network_of (t ++ y)) i bytes)
beyond_line t x y w i bytes =
    let e = beyond_network t x y w in (ap (λ N. line_outcome N i (length bytes)) e, ap (λ N. line_after N i bytes) e)
