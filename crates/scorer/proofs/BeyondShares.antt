-- Slices that begin with the same table get the same answers from Shares and Share, and the same entries.
use Rattle.std.specs.Prelude.{List, ◌++◌, ◌≡◌, ℕ, ◌≤◌, length}
use Rattle.std.proofs.Common.{ap}
use Rattle.table_spec.specs.Layout.{entries, starts_at}
use Rattle.two_way.specs.TwoWay.{network_of}
use Rattle.two_way.proofs.SameTable.{beyond_network}
use Rattle.share_spec.specs.ShareOutcomes.{shares_outcome, numerators_after, share_outcome}

-- ENTRIES BEYOND THE TABLE NEVER MATTER, x or y
module _ (t x y : List ℕ) (w : entries (starts_at t) t ≤ length t) where
  pub beyond_shares : (numerators : List ℕ)
      → (shares_outcome (network_of (t ++ x)) (length numerators) ≡ shares_outcome (network_of (t ++ y)) (length numerators))
      × (numerators_after (network_of (t ++ x)) numerators ≡ numerators_after (network_of (t ++ y)) numerators)
  beyond_shares numerators =
      let e = beyond_network t x y w in (ap (λ N. shares_outcome N (length numerators)) e, ap (λ N. numerators_after N numerators) e)

  pub beyond_share : (bus : ℕ) → share_outcome (network_of (t ++ x)) bus ≡ share_outcome (network_of (t ++ y)) bus
  beyond_share bus = ap (λ N. share_outcome N bus) (beyond_network t x y w)
