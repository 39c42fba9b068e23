-- What is due of the outage study, and that it is all that is promised.
use Rattle.std.specs.Prelude.{true, not, List, [], ◌∷◌, ◌++◌, ◌≡◌, refl, ℕ, ◌*◌, ◌≤◌, ◌<◌, ltb, ℤ, pos, nat_abs, ◌*ℤ◌, length, drop}
use Rattle.std.proofs.Common.{sym, ◌∙◌, arith, lt-ltb, le-ltb}
use Rattle.std.proofs.Math.Path.{ap}
use Rattle.std.proofs.Math.ListN.{get_or, get_or-append}
use Rattle.signed.specs.Signed.{signed_below, signed_at}
use Rattle.signed.proofs.SignedLists.{length-signed_below, signed_below-at, total_below-same}
use Rattle.refusals.specs.declared.Refusal.TheVariants.{NumeratorsTooShort}
use Rattle.refusals.specs.Outcomes.{Outcome, gives, refuses, ◌⇒◌}
use Rattle.refusals.specs.Due.{Due}
use Rattle.refusals.proofs.Due.{both, accept, stop, pass, below, not-below}
use Rattle.game.specs.Orders.{factorial}
use Rattle.game.proofs.EveryOrder.{every_order_once}
use Rattle.table_spec.specs.Limits.{max_weight}
use Rattle.table_spec.specs.Layout.{bus_count, row, lines}
use Rattle.table_spec.specs.Holds.{holds, Holds}
use Rattle.table_spec.proofs.Facts.{holds_facts}
use Rattle.table_spec.specs.Lines.{lower_end, upper_end}
use Rattle.table_spec.proofs.LinePairs.{pairs_in, neighbour-below, length_pairs}
use Rattle.table_spec.proofs.TableCauses.{on_held}
use Rattle.share_spec.specs.Network.{denominator}
use Rattle.share_spec.specs.TableNetwork.{max_denominator, Over}
use Rattle.share_spec.proofs.Denominator.{common_denominator}
use Rattle.share_spec.proofs.TableGame.{own_over, over_whole}
use Rattle.two_way.specs.TwoWay.{network_of}
use Rattle.two_way.proofs.TwoWaySound.{watching}
use Rattle.outage_spec.specs.Outage.{without_line, change_over, change}
use Rattle.outage_spec.specs.StudyOutcome.{study_outcome, stored_changes, changes_after, Line, AllStudied}
use Rattle.outage_spec.proofs.WeakenedTable.{weak_buses, same-weight, weak_scored, line_lost, weak_over}
use Rattle.outage_spec.proofs.EndTerms.{change-le}
use Rattle.outage_spec.proofs.ChangeClaims.{changes_none, change_fair, change_far}
use Rattle.outage_spec.specs.StudyDue.{StudyDue}

-- EACH NUMBER BELOW THE LINE COUNT NAMES A LINE
pub line_named : {t : List ℕ} → Holds t → (k : ℕ) → k < lines t → Line t (lower_end t k) (upper_end t k)
line_named {t} w k l =
    let p = pairs_in (bus_count t) (row t) k (omega (arith, length_pairs t w)) in
    record { ascends = p.1; inside = neighbour-below t w (lower_end t k) (upper_end t k) p.0 p.2; joined = p.2 }

-- ---- how the causes decide on a network; the line count was read into m, the bus count into n

module _ (t : List ℕ) (k : ℕ) (x : List ℤ) (h : holds t ≡ true) {m : ℕ} (em : m ≡ lines t) where
  pub no_line : m ≤ k → StudyDue t k x (refuses 18) x
  no_line g = on_held h (stop (ap not (le-ltb k (lines t) (omega arith))))

  module _ (b : k < m) {n : ℕ} (en : n ≡ bus_count t) where
    named : {o : Outcome ℕ} {y : List ℤ} → Due ((ltb (length x) (bus_count t) ⇒ NumeratorsTooShort) ∷ []) (denominator (network_of t)) (stored_changes t k x) x o y → StudyDue t k x o y
    named d = on_held h (pass (ap not (lt-ltb k (lines t) (omega arith))) d)

    pub too_few : length x < n → StudyDue t k x (refuses 12) x
    too_few l = named (below refl en l)

    pub enough : n ≤ length x → {L : ℕ} {y : List ℤ} → L ≡ denominator (network_of t) → y ≡ stored_changes t k x → StudyDue t k x (gives L) y
    enough l e f = named (not-below refl en l (accept e f))

-- what is stored: the changes, and behind them what was there
pub stored_changes_lem : (t : List ℕ) (k : ℕ) (x : List ℤ) → stored_changes t k x ≡ signed_below (bus_count t) (change t k) ++ drop (bus_count t) x
unfolding stored_changes
stored_changes_lem t k x = refl

-- so are changes over a number that was found to be the L of the full network
pub over_stored : (t : List ℕ) (k : ℕ) (x : List ℤ) {L : ℕ} {y : List ℤ} → L ≡ denominator (network_of t)
    → y ≡ signed_below (bus_count t) (change_over (network_of t) (network_of (without_line t k)) L) ++ drop (bus_count t) x → y ≡ stored_changes t k x
over_stored t k x e f =
    f
    ∙ ap (λ L. signed_below (bus_count t) (change_over (network_of t) (network_of (without_line t k)) L) ++ drop (bus_count t) x) e
    ∙ sym (stored_changes_lem t k x)

-- what is due is answered and stored
pub study_due : (t : List ℕ) (k : ℕ) (x : List ℤ) {o : Outcome ℕ} {y : List ℤ} → StudyDue t k x o y → (o ≡ study_outcome t k (length x)) × (y ≡ changes_after t k x)
study_due t k x d = both d

-- ---- a line of a network

module _ (t : List ℕ) (h : holds t ≡ true) (k : ℕ) (b : k < lines t) where
  held : Holds t
  held = holds_facts t h

  pub line_over : {L : ℕ} → L ≡ denominator (network_of t) → Over t L × Over (without_line t k) L
  line_over e = (own_over held.shape e, weak_over held (line_named held k b) e)

  -- NO CHANGE IS ABOVE 2 L TIMES THE HIGHEST WEIGHT, up or down
  pub change_small : (v : ℕ) → v < bus_count t → nat_abs (change t k v) ≤ 2 * max_weight * max_denominator
  change_small v l =
      let o = line_over refl in
      omega (arith, change-le held (line_named held k b) (denominator (network_of t)) o.0 o.1 v l, o.0.bounded)

  -- entries enough are lent
  module _ (x : List ℤ) (l : bus_count t ≤ length x) where
    entry_is : (v : ℕ) → v < bus_count t → signed_at (stored_changes t k x) v ≡ change t k v
    unfolding signed_at
    entry_is v m =
        ap (λ l. get_or l v (pos 0)) (stored_changes_lem t k x)
        ∙ get_or-append (signed_below (bus_count t) (change t k)) (drop (bus_count t) x) (pos 0) v (omega (arith, length-signed_below (bus_count t) (change t k)))
        ∙ signed_below-at (change t k) (bus_count t) v m

-- ALL THAT IS PROMISED of what is answered and stored
pub all-studied : (t : List ℕ) (k : ℕ) (x : List ℤ) {o : Outcome ℕ} {after : List ℤ}
    → o ≡ study_outcome t k (length x) → after ≡ changes_after t k x → AllStudied t k (length x) o after
all-studied t k x {after = after} e f h b l =
    let w = held t h k b in
    let line = line_named w k b in
    let weak = weak_scored w line in
    let over = line_over t h k b refl in
    let due = enough t k x h refl b refl l refl refl in
    let entry : (v : ℕ) → v < bus_count t → signed_at after v ≡ change t k v = λ v m. ap (λ a. signed_at a v) (f ∙ sym due.after) ∙ entry_is t h k b x l v m in
    let full = watching w.shape w.mirrored in
    let left = watching weak.shape weak.mirrored in
    let n = weak_buses w line in
    let L = denominator (network_of t) in
    let whole = over_whole w.shape over.0 in
    let still = over_whole weak.shape over.1 in
    record {
      L = L;
      given = e ∙ sym due.answered;
      over = common_denominator (network_of t);
      line = line;
      weakened = line_lost w line;
      every = every_order_once (bus_count t);
      fair = λ v m. ap (λ z. pos (factorial (bus_count t)) *ℤ z) (entry v m) ∙ change_fair full left n L whole still v m;
      none = total_below-same (signed_at after) (change t k) (bus_count t) entry
          ∙ changes_none full left n L whole still (same-weight w line);
      far = λ v m r. entry v m ∙ change_far w line L v m r;
    }
