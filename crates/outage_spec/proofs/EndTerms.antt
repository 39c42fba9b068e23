-- Of all terms only those of the line's ends move: a bus's change is what the two ends give it without the line less what they give it with the line.
use Rattle.std.specs.Prelude.{List, ◌≡◌, ℕ, ◌+◌, ◌*◌, ◌≤◌, ◌<◌, nat_abs}
use Rattle.std.proofs.Common.{sym, ap, ap₂, subst, ◌∙◌, arith}
use Rattle.lists.proofs.SumsBelow.{sum_below_but_two}
use Rattle.signed.specs.Signed.{difference}
use Rattle.signed.proofs.Differences.{difference-same, difference_abs}
use Rattle.table_spec.specs.Limits.{max_weight}
use Rattle.table_spec.specs.Layout.{bus_count, row, need, weight}
use Rattle.table_spec.specs.Holds.{Holds}
use Rattle.share_spec.specs.Formula.{numerator_over}
use Rattle.share_spec.specs.TableNetwork.{game_of, Over}
use Rattle.share_spec.specs.TermsGiven.{term_to, terms_from, given_by}
use Rattle.share_spec.proofs.TermsGiven.{term_by_row, given-le, numerator-given}
use Rattle.two_way.specs.TwoWay.{network_of}
use Rattle.two_way.proofs.TwoWaySound.{watching}
use Rattle.outage_spec.specs.Outage.{without_pair, change_over}
use Rattle.outage_spec.specs.StudyOutcome.{Line}
use Rattle.outage_spec.proofs.WeakenedTable.{lower_inside, weak_buses, weak_need, weak_weight, lower_row, upper-row, other_row, weak_scored}
use Rattle.outage_spec.specs.EndTerms.{ends_with, ends_without}

module _ {t : List ℕ} (w : Holds t) {a b : ℕ} (line : Line t a b) (L : ℕ) where
  abbrev s : List ℕ
  s = without_pair t a b

  with_terms : (v : ℕ) → term_to (game_of t) L a v + term_to (game_of t) L b v ≡ ends_with t a b L v
  with_terms v = ap₂ ◌+◌ (term_by_row t L a v) (term_by_row t L b v)

  -- bus u, whose row is r without the line
  weak_terms : (u v : ℕ) {r : List ℕ} → row s u ≡ r → term_to (game_of s) L u v ≡ terms_from (weight t u) (need t u) r L u v
  weak_terms u v e =
      term_by_row s L u v ∙ ap₂ (λ m k. terms_from m k (row s u) L u v) (weak_weight w line u) (weak_need w line u) ∙ ap (λ r. terms_from (weight t u) (need t u) r L u v) e

  without_terms : (v : ℕ) → term_to (game_of s) L a v + term_to (game_of s) L b v ≡ ends_without t a b L v
  without_terms v = ap₂ ◌+◌ (weak_terms a v (lower_row w line)) (weak_terms b v (upper-row w line))

  -- every other bus gives as before
  other_terms : (u v : ℕ) → u < bus_count t → (u ≡ a → ⊥) → (u ≡ b → ⊥) → term_to (game_of s) L u v ≡ term_to (game_of t) L u v
  other_terms u v l p q = weak_terms u v (other_row w line u l p q) ∙ sym (term_by_row t L u v)

  numerators_moved : (v : ℕ) → v < bus_count t → numerator_over (network_of s) L v + ends_with t a b L v ≡ ends_without t a b L v + numerator_over (network_of t) L v
  numerators_moved v l =
      let c = weak_scored w line in
      let n = weak_buses w line in
      omega (
        arith,
        numerator-given (watching w.shape w.mirrored) L v l,
        numerator-given (watching c.shape c.mirrored) L v (omega (arith, n)),
        ap (λ m. given_by (game_of s) L m v) n,
        sum_below_but_two (λ u. term_to (game_of s) L u v) (λ u. term_to (game_of t) L u v) (bus_count t) a b (lower_inside w line) line.inside
            (λ e. omega (arith, line.ascends)) (λ u m. other_terms u v m),
        with_terms v,
        without_terms v,
      )

  -- THE CHANGE IS THE ENDS'
  pub change_by_ends : (v : ℕ) → v < bus_count t → change_over (network_of t) (network_of s) L v ≡ difference (ends_without t a b L v) (ends_with t a b L v)
  unfolding change_over
  change_by_ends v l = difference-same _ _ _ _ (numerators_moved v l)

  -- L makes the terms whole with the line and without it
  module _ (o : Over t L) (p : Over s L) where
    pub ends_with_le : (v : ℕ) → ends_with t a b L v ≤ 2 * max_weight * L
    ends_with_le v = omega (arith, with_terms v, given-le w.shape o a v (lower_inside w line), given-le w.shape o b v line.inside)

    pub ends_without-le : (v : ℕ) → ends_without t a b L v ≤ 2 * max_weight * L
    ends_without-le v =
        let c = (weak_scored w line).shape in
        let n = weak_buses w line in
        omega (arith, without_terms v, given-le c p a v (omega (arith, n, lower_inside w line)), given-le c p b v (omega (arith, n, line.inside)))

    -- so no change is above twice the highest weight times L, up or down
    pub change-le : (v : ℕ) → v < bus_count t → nat_abs (change_over (network_of t) (network_of s) L v) ≤ 2 * max_weight * L
    change-le v l =
        subst (λ z. nat_abs z ≤ 2 * max_weight * L) (sym (change_by_ends v l))
        (difference_abs (2 * max_weight * L) (ends_without t a b L v) (ends_with t a b L v) (ends_without-le v) (ends_with_le v))
