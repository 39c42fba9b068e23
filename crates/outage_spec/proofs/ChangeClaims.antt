-- What changes come to, whichever networks N and M they are between: they add up to zero, and they are fair. When a line goes out, a bus far from it
-- keeps its numerator, and every change fits 64 bits.
use Rattle.std.specs.Prelude.{false, List, [], ◌∷◌, ◌≡◌, ℕ, ◌*◌, ◌<◌, pos, ◌*ℤ◌}
use Rattle.std.proofs.Math.Path.{sym, ap, ap₂}
use Rattle.std.proofs.Common.{◌∙◌, mul_comm, arith, ne_eqb, SFits}
use Rattle.std.specs.Int.{w64}
use Rattle.lists.specs.Lists.{count, has, without}
use Rattle.lists.specs.Below.{sum_below}
use Rattle.lists.proofs.Tests.{fails}
use Rattle.lists.proofs.Counts.{has_in, has-none}
use Rattle.lists.proofs.Without.{of_without}
use Rattle.signed.specs.Signed.{difference, total_below}
use Rattle.signed.proofs.Differences.{difference-none, difference_scale, total_difference}
use Rattle.signed.proofs.SignedBits.{mag_le}
use Rattle.game.specs.Orders.{factorial}
use Rattle.table_spec.specs.Layout.{bus_count, row, need, weight}
use Rattle.table_spec.specs.Holds.{Holds}
use Rattle.share_spec.specs.Network.{Network, total_weight, Watching, WholeOver}
use Rattle.share_spec.specs.Formula.{numerator_over}
use Rattle.share_spec.specs.TableNetwork.{Over}
use Rattle.share_spec.proofs.FairFormula.{fair_over, whole_over}
use Rattle.share_spec.specs.TermsGiven.{terms_from}
use Rattle.two_way.specs.TwoWay.{network_of}
use Rattle.outage_spec.specs.Outage.{without_pair, change_over}
use Rattle.outage_spec.specs.StudyOutcome.{Line, Far, gains}
use Rattle.outage_spec.proofs.EndTerms.{change_by_ends, change-le}

-- two networks of the same buses, and an L that makes the terms of both whole
module _ {N M : Network} (w : Watching N) (x : Watching M) (same : M.buses ≡ N.buses) (L : ℕ) (o : WholeOver N L) (p : WholeOver M L) where
  -- THE CHANGES ADD UP TO ZERO, where the networks have the same weight
  pub changes_none : total_weight M ≡ total_weight N → total_below N.buses (change_over N M L) ≡ pos 0
  unfolding change_over
  changes_none e =
      total_difference (numerator_over M L) (numerator_over N L) N.buses
      ∙ difference-none _ _ (ap (λ n. sum_below n (numerator_over M L)) (sym same) ∙ whole_over x L p ∙ ap (λ m. L * m) e ∙ sym (whole_over w L o))

  -- A CHANGE IS FAIR: times n! it is L times the sum of gains over all orders in M less that sum in N
  pub change_fair : (v : ℕ) → v < N.buses → pos (factorial N.buses) *ℤ change_over N M L v ≡ pos L *ℤ difference (gains M v) (gains N v)
  unfolding change_over
  change_fair v b =
      let n = factorial N.buses in
      let after : numerator_over M L v * n ≡ L * gains M v = ap (λ m. numerator_over M L v * factorial m) (sym same) ∙ (fair_over x L p v (omega arith)).average in
      let before : numerator_over N L v * n ≡ L * gains N v = (fair_over w L o v b).average in
      difference_scale n (numerator_over M L v) (numerator_over N L v)
      ∙ ap₂ difference (mul_comm n (numerator_over M L v) ∙ after) (mul_comm n (numerator_over N L v) ∙ before)
      ∙ sym (difference_scale L (gains M v) (gains N v))

-- a bus that is neither u nor in u's row gets nothing from u
nothing : (m k : ℕ) (r : List ℕ) (L u v : ℕ) → (v ≡ u → ⊥) → count v r ≡ 0 → terms_from m k r L u v ≡ 0
unfolding terms_from
nothing m k r L u v p q = rw (ne_eqb v u p, q) (omega arith)

module _ {t : List ℕ} (w : Holds t) {a b : ℕ} (line : Line t a b) (L : ℕ) where
  -- A BUS THAT IS NEITHER AN END NOR A NEIGHBOUR OF AN END KEEPS ITS NUMERATOR
  pub change_far : (v : ℕ) → v < bus_count t → Far t a b v → change_over (network_of t) (network_of (without_pair t a b)) L v ≡ pos 0
  change_far v l f =
      let still : (u e : ℕ) → has v (row t u) ≡ false → count v (without (e ∷ []) (row t u)) ≡ 0 =
      λ u e h. let r = without (e ∷ []) (row t u) in has-none v r (fails (has v r) (λ m. let q = of_without (e ∷ []) (row t u) v (has_in v r m) in omega (arith, has-none v (row t u) h))) in
      change_by_ends w line L v l
      ∙ difference-none _ _ (omega (
        arith,
        nothing (weight t a) (need t a) (row t a) L a v f.not_lower (has-none v (row t a) f.not_by_lower),
        nothing (weight t b) (need t b) (row t b) L b v f.not-upper (has-none v (row t b) f.not_by_upper),
        nothing (weight t a) (need t a) (without (b ∷ []) (row t a)) L a v f.not_lower (still a b f.not_by_lower),
        nothing (weight t b) (need t b) (without (a ∷ []) (row t b)) L b v f.not-upper (still b a f.not_by_upper),
      ))

  -- A CHANGE FITS: each end moves no more than its weight times L
  pub change_fits : Over t L → Over (without_pair t a b) L → (v : ℕ) → v < bus_count t → SFits w64 (change_over (network_of t) (network_of (without_pair t a b)) L v)
  change_fits o p v l = record { sfits = omega (arith, mag_le (change_over (network_of t) (network_of (without_pair t a b)) L v), change-le w line L o p v l, o.bounded) }
