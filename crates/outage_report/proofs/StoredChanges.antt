-- Of the entries that the study stored, the first n are the changes. They are small, and their lines are those of the line that goes out.
use Rattle.std.specs.Prelude.{true, List, ◌≡◌, ℕ, ◌<◌, ℤ, pos, length}
use Rattle.std.proofs.Math.Path.{ap, ap₂}
use Rattle.std.proofs.Common.{◌∙◌, arith, ltb-true}
use Rattle.std.proofs.lemmas.Bool.{not-false}
use Rattle.std.proofs.Math.ListN.{take, get_or}
use Rattle.std.proofs.Math.Seq.{take_at}
use Rattle.lists.specs.Below.{join_below}
use Rattle.lists.proofs.JoinBelow.{join_below-same}
use Rattle.signed.specs.Signed.{signed_below, signed_at}
use Rattle.signed.proofs.SignedLists.{length-signed_below, signed_below-at}
use Rattle.refusals.specs.Outcomes.{gives, values_or}
use Rattle.refusals.specs.Causes.{NoneHolds}
use Rattle.refusals.proofs.Causes.{no_cause, none-gives}
use Rattle.table_spec.specs.Layout.{bus_count, lines}
use Rattle.table_spec.specs.Holds.{holds}
use Rattle.table_spec.proofs.Facts.{holds_facts}
use Rattle.share_spec.specs.Network.{denominator}
use Rattle.two_way.specs.TwoWay.{network_of}
use Rattle.outage_spec.specs.Outage.{change}
use Rattle.outage_spec.specs.StudyOutcome.{study_causes, study_outcome, stored_changes, changes_after}
use Rattle.outage_spec.proofs.StudyDue.{change_small}
use Rattle.outage_report.specs.OutageReport.{line_of, lines_of, change_lines}
use Rattle.outage_report.specs.ChangeRoom.{Small}

-- the study was lent x and accepted the line
module _ (t : List ℕ) (k : ℕ) (x : List ℤ) {n L : ℕ} {changes : List ℤ} (e : n ≡ bus_count t) (a : study_outcome t k (length x) ≡ gives L) (s : changes ≡ changes_after t k x) where
  none : NoneHolds (study_causes (network_of t) k (length x))
  none = (no_cause (study_causes (network_of t) k (length x)) (denominator (network_of t)) a).0

  front : take n changes ≡ signed_below (bus_count t) (change t k)
  unfolding stored_changes
  front =
      ap₂ take e (s ∙ ap (values_or x) (none-gives (study_causes (network_of t) k (length x)) (stored_changes t k x) none))
      ∙ take_at (signed_below (bus_count t) (change t k)) _ (bus_count t) (length-signed_below (bus_count t) (change t k))

  front_at : (v : ℕ) → v < bus_count t → signed_at (take n changes) v ≡ change t k v
  unfolding signed_at
  front_at v l = ap (λ y. get_or y v (pos 0)) front ∙ signed_below-at (change t k) (bus_count t) v l

  pub front_long : length (take n changes) ≡ bus_count t
  front_long = ap length front ∙ length-signed_below (bus_count t) (change t k)

  pub front_small : Small (take n changes)
  front_small =
      let h : holds t ≡ true = not-false _ none.0 in
      let b : k < lines t = ltb-true k (lines t) (not-false _ none.1.0) in
      record {
        most = omega (arith, front_long, (holds_facts t h).shape.complete.most);
        each = λ v l. let m : v < bus_count t = omega (arith, front_long) in rw (front_at v m) (change_small t h k b v m);
      }

  pub front-lines : lines_of (take n changes) ≡ change_lines t k
  front-lines =
      ap (λ m. join_below m (λ v. line_of v (signed_at (take n changes) v))) front_long ∙ join_below-same _ _ (bus_count t) (λ v l. ap (line_of v) (front_at v l))
