-- How the code scores all buses: each adds its terms to the numerators, and what all have given is the game's formula.
use mathlib.Core.List.{List}
use mathlib.Core.Path.{◌≡◌, ap, subst, ◌∙◌}
use Prim.Native.Nat.{ℕ, ◌+◌, ◌*◌, ◌^◌, ◌≤◌, ◌<◌}
use native.Mathlib.Nat.{mul-le-mul}
use native.Mathlib.Omega.{arith}
use lib.ListN.{length, replicate}
use Rattle.lists.specs.Lists.{◌∈◌, at, put}
use Rattle.lists.specs.Below.{map_below, range}
use Rattle.lists.proofs.Loops.{sum_below-next}
use Rattle.lists.proofs.SumsBelow.{sum_below-le, sum_below_const}
use Rattle.game.specs.Game.{Game, numerator as formula}
use Rattle.table_spec.specs.Limits.{max_buses, max_weight}
use Rattle.table_spec.specs.Layout.{bus_count, row, need, weight}
use Rattle.table_spec.specs.Holds.{Scorable}
use Rattle.share_spec.specs.TableNetwork.{game_of, max_denominator, Over}
use Rattle.share_spec.proofs.TableGame.{game_on}
use Rattle.share_spec.specs.TermsGiven.{term_to, terms_from, given_by}
use Rattle.share_spec.proofs.TermsGiven.{term_by_row, given-le, all-given, none-given}
use Rattle.share_terms.specs.Added.{Added}
use Rattle.share_terms.proofs.Adding.{added_same, added_both, cleared_long, cleared_zero, added_zeros}
use Rattle.share_terms.proofs.RowTerms.{added_by, row_inside}
use Rattle.scorer.specs.ScorerWork.{Room}

-- ---- what one bus gives

module _ {t : List ℕ} (w : Scorable t) {L : ℕ} (o : Over t L) {bus : ℕ} (b : bus < bus_count t) where
  -- its row r, as code has it
  module _ {r : List ℕ} (er : r ≡ row t bus) where
    -- the numerators x have room for its terms
    pub terms_room : (x : List ℕ) → Room (bus_count t) (max_weight * L) x
        → ((bus < length x) × (at x bus + max_weight * L < 2 ^ 64)) × ((v : ℕ) → v ∈ r → (v < length x) × (at x v + max_weight * L < 2 ^ 64))
    terms_room x room = (room bus b, λ v m. room v (row_inside w b er v m))

    pub all_terms : {m k : ℕ} {x y : List ℕ} → m ≡ weight t bus → k ≡ need t bus → Added (terms_from m k r L bus) x y → Added (term_to (game_of t) L bus) x y
    all_terms em ek a = added_same (added_by L bus em ek er a) (term_by_row t L bus)

-- ---- bus by bus

-- the first m buses have added their terms to z, and bus m adds its own
pub bus_added : (g : Game) (L m : ℕ) {z u k : List ℕ} → Added (given_by g L m) z u → Added (term_to g L m) u k → Added (given_by g L (m + 1)) z k
bus_added g L m a b = added_both a b (λ v. sum_below-next m (λ u. term_to g L u v))

module _ {t : List ℕ} (w : Scorable t) {L : ℕ} (o : Over t L) where
  -- the first m buses give at most the highest weight times L each
  given_by_le : (m v : ℕ) → m ≤ bus_count t → given_by (game_of t) L m v ≤ m * (max_weight * L)
  given_by_le m v h = rw (← sum_below_const (max_weight * L) m) (sum_below-le _ _ m (λ u b. given-le w o u v (omega arith)))

  -- the first n entries of s were cleared, which left z, and then the first m buses added their terms, which left u
  module _ (s : List ℕ) {n : ℕ} {z : List ℕ} (en : n ≡ bus_count t) (h : n ≤ length s) (cleared : z ≡ put s 0 (replicate n 0))
      (m : ℕ) {u : List ℕ} (a : Added (given_by (game_of t) L m) z u) where
    -- bus m finds room for its own
    pub bus_room : m < n → Room (bus_count t) (max_weight * L) u
    bus_room b v c = (
      omega (arith, a.long, cleared_long s h cleared),
      omega (
        arith,
        a.each v,
        cleared_zero s h cleared v (omega arith),
        given_by_le m v (omega arith),
        o.bounded,
        mul-le-mul {n₁ = m} {m₁ = max_weight * L} {n₂ = max_buses} {m₂ = max_weight * max_denominator} (omega (arith, w.complete.most)) (omega (arith, o.bounded)),
      ),
    )

    -- all buses have added theirs
    pub all_added : m ≤ n → n ≤ m → u ≡ put s 0 (map_below (bus_count t) (λ v. formula (game_of t) (range (bus_count t)) v L))
    all_added b c =
        let e : m ≡ bus_count t = omega arith in
        let g = game_on w in
        let f : ℕ → ℕ = λ v. formula (game_of t) (range (bus_count t)) v L in
        added_zeros s h cleared (subst (λ m. Added (given_by (game_of t) L m) z u) e a)
        (λ v l. all-given (bus_count t) (game_of t) g L v (omega arith)) (λ v l. none-given (bus_count t) (game_of t) g L v (omega arith))
        ∙ ap (λ n. put s 0 (map_below n f)) en
