-- What each bus gives to the numerators: its own term to its own, and its neighbour's term to that of each of its watchers. Added up over all buses
-- that is the closed formula.
use Rattle.std.proofs.Math.Bool.{cond}
use Rattle.std.specs.Prelude.{List, ◌≡◌, refl, ℕ, ◌+◌, ◌*◌, ◌≤◌, ◌<◌, eqb, length}
use Rattle.std.proofs.Common.{sym, ◌∙◌, mul-le-mul_left, mul-le-mul_right, lt-ltb, ne_eqb}
use Rattle.std.proofs.Math.Path.{ap}
use Rattle.std.proofs.Math.Nat.{mul-zero}
use native.Mathlib.Omega.{arith}
use Rattle.lists.specs.Lists.{indicator, count, ◌∈◌, has}
use Rattle.lists.specs.Below.{sum_below, range}
use Rattle.lists.proofs.Tests.{fails}
use Rattle.lists.proofs.Sums.{indicator-le}
use Rattle.lists.proofs.Counts.{has_in, has-none, count-le, has_once}
use Rattle.lists.proofs.SumsBelow.{sum_by-range, sum_below-same, sum_below-add, sum_below_const, sum_below_single, in_range_lem, of_range}
use Rattle.game.specs.Game.{Game, own_term, neighbour_term, own, neighbour, GameOn, Whole, numerator as formula}
use Rattle.game.proofs.Terms.{terms_whole}
use Rattle.table_spec.specs.Limits.{max_weight}
use Rattle.table_spec.specs.Layout.{bus_count, row, need, weight}
use Rattle.table_spec.specs.Holds.{Scorable}
use Rattle.share_spec.specs.Network.{Network, Watching}
use Rattle.share_spec.specs.Formula.{numerator_over}
use Rattle.share_spec.specs.TableNetwork.{game_of, Over}
use Rattle.share_spec.proofs.TableGame.{term_whole}
use Rattle.share_spec.proofs.FairFormula.{as_game}
use Rattle.share_spec.specs.TermsGiven.{given_by, term_to, terms_from}

pub term_by_row : (t : List ℕ) (L u v : ℕ) → term_to (game_of t) L u v ≡ terms_from (weight t u) (need t u) (row t u) L u v
unfolding term_to terms_from
term_by_row t L u v = refl

-- no bus gets more from another than L times its weight
pub terms_le : (w k : ℕ) (r : List ℕ) (L u v : ℕ) → Whole k (length r) L → terms_from w k r L u v ≤ w * L
unfolding terms_from
terms_le w k r L u v h =
    omega (
      arith,
      ap (λ x. w * x) (terms_whole k (length r) L h),
      mul-le-mul_left (w * own_term k (length r) L) (indicator-le (eqb v u)),
      mul-le-mul_left (w * neighbour_term k (length r) L) (count-le v r),
    )

-- nor, where a table can be scored, more than L times the highest weight
pub given-le : {t : List ℕ} → Scorable t → {L : ℕ} → Over t L → (u v : ℕ) → u < bus_count t → term_to (game_of t) L u v ≤ max_weight * L
given-le {t} w {L} o u v b =
    omega (
      arith,
      term_by_row t L u v,
      terms_le (weight t u) (need t u) (row t u) L u v (term_whole w o u b),
      mul-le-mul_right {m = weight t u} {n = max_weight} L (w.weighed u b),
    )

module _ (n : ℕ) (g : Game) (on : GameOn (range n) g) (L : ℕ) where
  -- the own terms, and the neighbours' terms
  apart : (v : ℕ) → given_by g L n v ≡ sum_below n (λ u. own g L u * indicator (eqb v u)) + sum_below n (λ u. neighbour g L u * count v (g.watchers u))
  unfolding term_to
  apart v = sum_below-add (λ u. own g L u * indicator (eqb v u)) (λ u. neighbour g L u * count v (g.watchers u)) n

  -- a bus has its own term once, and the term of each bus that it watches once: what all give is the game's formula
  pub all-given : (v : ℕ) → v < n → given_by g L n v ≡ formula g (range n) v L
  unfolding formula
  all-given v b =
      omega (
        arith,
        apart v,
        sum_below_single (own g L) v n,
        ap (λ x. own g L v * indicator x) (lt-ltb v n b),
        sum_below-same _ _ n (λ u c. has_once v (g.watchers u) (on.watchers_once u (in_range_lem u n c)) (neighbour g L u)),
        sum_by-range (λ u. cond (has v (g.watchers u)) (neighbour g L u) 0) n,
      )

  -- nothing goes to a number that is no bus
  pub none-given : (v : ℕ) → n ≤ v → given_by g L n v ≡ 0
  unfolding term_to
  none-given v h = sum_below-same _ (λ u. 0) n nothing ∙ sum_below_const 0 n ∙ mul-zero n
    where
      nothing : (u : ℕ) → u < n → own g L u * indicator (eqb v u) + neighbour g L u * count v (g.watchers u) ≡ 0
      nothing u b =
          let outside : v ∈ g.watchers u → ⊥ = λ m. omega (arith, of_range v n (on.watchers_inside u (in_range_lem u n b) v m)) in
          let none : count v (g.watchers u) ≡ 0 = has-none v (g.watchers u) (fails _ (λ e. outside (has_in v (g.watchers u) e))) in
          omega (arith, ap (λ x. own g L u * indicator x) (ne_eqb v u (λ e. omega arith)), ap (λ c. neighbour g L u * c) none)

-- so a numerator is what all buses of the network give
pub numerator-given : {N : Network} → Watching N → (L v : ℕ) → v < N.buses → numerator_over N L v ≡ given_by N.game L N.buses v
numerator-given {N} w L v b = sym (all-given N.buses N.game w.on L v b ∙ as_game w L v b)
