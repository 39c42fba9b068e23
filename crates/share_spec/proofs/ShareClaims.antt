-- What is due of Shares and Share. Of a network it is fair, if its kind shows that shares are defined; and Share gives the entry that Shares stores.
use Rattle.std.specs.Prelude.{true, false, List, ◌≡◌, refl, ℕ, ◌≤◌, ◌<◌, length}
use Rattle.std.proofs.Common.{sym, ap, subst, ◌∙◌, arith}
use Rattle.lists.specs.Lists.{at}
use Rattle.lists.specs.Below.{map_below}
use Rattle.lists.proofs.Places.{at-append}
use Rattle.lists.proofs.SumsBelow.{sum_below-same}
use Rattle.lists.proofs.JoinBelow.{length-map_below, map_below-at}
use Rattle.refusals.specs.Outcomes.{Outcome, gives, refuses}
use Rattle.refusals.proofs.Due.{both, not-below, accept}
use Rattle.table_spec.proofs.TableCauses.{no_network, on_held, on_bus}
use Rattle.share_spec.specs.Network.{Network, denominator, Sound}
use Rattle.share_spec.specs.Formula.{numerator, FairShare}
use Rattle.share_spec.proofs.FairFormula.{fair, whole}
use Rattle.share_spec.specs.ShareOutcomes.{shares_outcome, stored_numerators, numerators_after, AllFair, share_outcome, OneFair}
use Rattle.share_spec.specs.ShareClaims.{ShareDue, SharesDue}

-- what is due of Shares is answered and stored
pub shares_due : (N : Network) (x : List ℕ) {o : Outcome ℕ} {y : List ℕ} → SharesDue N x o y → (o ≡ shares_outcome N (length x)) × (y ≡ numerators_after N x)
shares_due N x d = both d

-- a slice that holds no network is refused, however few entries are lent, and they are kept
pub none_held : (N : Network) (x : List ℕ) → N.held ≡ false → (refuses 11 ≡ shares_outcome N (length x)) × (x ≡ numerators_after N x)
none_held N x h = shares_due N x (no_network h)

-- ---- a network, and entries enough lent

module _ (N : Network) (h : N.held ≡ true) where
  one-given : (v : ℕ) → v < N.buses → ShareDue N v (gives (numerator N v, denominator N))
  one-given v b = on_held h (on_bus refl b (accept refl refl))

  module _ (x : List ℕ) (l : N.buses ≤ length x) where
    all-given : SharesDue N x (gives (denominator N)) (stored_numerators N x)
    all-given = on_held h (not-below refl refl l (accept refl refl))

    entry_is : (v : ℕ) → v < N.buses → at (stored_numerators N x) v ≡ numerator N v
    unfolding stored_numerators
    entry_is v b =
        at-append (map_below N.buses (numerator N)) _ v (omega (arith, length-map_below N.buses (numerator N)))
        ∙ map_below-at (numerator N) N.buses b

    -- Share gives the entry that Shares stores, and the same L
    pub same_share : (v : ℕ) → v < N.buses → (shares_outcome N (length x) ≡ gives (denominator N)) × (share_outcome N v ≡ gives (at (numerators_after N x) v, denominator N))
    same_share v b =
        let d = shares_due N x all-given in
        (sym d.0, sym (one-given v b).answered ∙ ap (λ y. gives (y, denominator N)) (sym (entry_is v b) ∙ ap (λ a. at a v) d.1))

-- ---- the third demand follows from what is answered and stored

module _ (N : Network) (sound : N.held ≡ true → Sound N) where
  pub all_fair : (x : List ℕ) {o : Outcome ℕ} {after : List ℕ} → SharesDue N x o after → AllFair N (length x) o after
  all_fair x {after = after} d h l =
      let due = all-given N h x l in
      let entry : (v : ℕ) → v < N.buses → at after v ≡ numerator N v = λ v b. ap (λ a. at a v) (d.after ∙ sym due.after) ∙ entry_is N h x l v b in
      record {
        L = denominator N;
        given = d.answered ∙ sym due.answered;
        each = λ v b. subst (FairShare N (denominator N) v) (sym (entry v b)) (fair (sound h) v b);
        whole = sum_below-same (at after) (numerator N) N.buses entry ∙ whole (sound h);
      }

  pub one_fair : (bus : ℕ) {o : Outcome (ℕ × ℕ)} → ShareDue N bus o → OneFair N bus o
  one_fair bus d h b =
      record { x = numerator N bus; L = denominator N; given = d.answered ∙ sym (one-given N h bus b).answered; share = fair (sound h) bus b }
