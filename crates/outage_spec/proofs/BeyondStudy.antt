-- Slices that begin with the same table get the same answer from the outage study, and the same entries.
use Rattle.std.specs.Prelude.{List, ◌++◌, ◌≡◌, ℕ, ◌≤◌, ℤ, length, drop}
use Rattle.std.proofs.Common.{sym, ap, ◌∙◌}
use Rattle.std.proofs.Math.Path.{ap₂, fun_ext}
use Rattle.lists.specs.Lists.{without}
use Rattle.signed.specs.Signed.{signed_below}
use Rattle.refusals.specs.Outcomes.{outcome, values_or}
use Rattle.table_spec.specs.Layout.{bus_count, needs, weights, row, entries, starts_at, table_of}
use Rattle.table_spec.specs.Lines.{lower_bus, upper_bus}
use Rattle.table_spec.specs.TableOutcomes.{SameNetwork}
use Rattle.table_spec.proofs.BeyondTable.{beyond}
use Rattle.share_spec.specs.Network.{denominator}
use Rattle.two_way.specs.TwoWay.{network_of}
use Rattle.two_way.proofs.SameTable.{same_network}
use Rattle.outage_spec.specs.Outage.{leaving, without_pair, without_line, change_of, change}
use Rattle.outage_spec.specs.StudyOutcome.{study_causes, study_outcome, stored_changes, changes_after}
use Rattle.outage_spec.proofs.StudyDue.{stored_changes_lem}

-- the table without line k, by the sections of the full one
abbrev made : ℕ → List ℕ → List ℕ → (ℕ → List ℕ) → ℕ → List ℕ
made n q w rows k = table_of n q w (λ i. without (leaving (lower_bus n rows k) (upper_bus n rows k) i) (rows i))

module _ {a b : List ℕ} (w : SameNetwork a b) where
  same_weakened : (k : ℕ) → without_line a k ≡ without_line b k
  unfolding without_pair
  same_weakened k =
      ap₂ (λ n q. made n q (weights a) (row a) k) w.sizes w.needed ∙ ap₂ (λ v rows. made (bus_count b) (needs b) v rows k) w.weighed (fun_ext w.rows)

  pub same-change : (k v : ℕ) → change a k v ≡ change b k v
  same-change k v = ap₂ (λ N M. change_of N M v) (same_network w) (ap network_of (same_weakened k))

  pub same_outcome : (k lent : ℕ) → study_outcome a k lent ≡ study_outcome b k lent
  same_outcome k lent = ap (λ N. outcome (study_causes N k lent) (denominator N)) (same_network w)

  same-stored : (k : ℕ) (x : List ℤ) → changes_after a k x ≡ changes_after b k x
  same-stored k x =
      ap (λ N. values_or x (outcome (study_causes N k (length x)) (stored_changes a k x))) (same_network w)
      ∙ ap (λ s. values_or x (outcome (study_causes (network_of b) k (length x)) s))
      (stored_changes_lem a k x ∙ ap₂ (λ n f. signed_below n f ++ drop n x) w.sizes (fun_ext (same-change k)) ∙ sym (stored_changes_lem b k x))

-- ENTRIES BEYOND THE TABLE NEVER MATTER, x or y
pub beyond_study : (t x y : List ℕ) → entries (starts_at t) t ≤ length t → (k : ℕ) (changes : List ℤ)
    → (study_outcome (t ++ x) k (length changes) ≡ study_outcome (t ++ y) k (length changes)) × (changes_after (t ++ x) k changes ≡ changes_after (t ++ y) k changes)
beyond_study t x y w k changes = let s = beyond t x y w in (same_outcome s k (length changes), same-stored s k changes)
