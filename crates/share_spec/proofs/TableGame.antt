-- A table that can be scored plays a game on its buses, and its L makes all terms whole and is never above 5,354,228,880.
use Rattle.std.specs.Prelude.{List, ◌≡◌, ℕ, ◌+◌, ◌*◌, ◌≤◌, ◌<◌}
use Rattle.std.specs.Int.{◌∣◌}
use Rattle.std.proofs.Common.{le_refl, arith}
use Rattle.lists.specs.Lists.{◌∈◌}
use Rattle.lists.specs.Below.{range}
use Rattle.lists.proofs.Tests.{fails}
use Rattle.lists.proofs.Counts.{has_in, has-none}
use Rattle.lists.proofs.SumsBelow.{largest_below-at, largest_below-le, in_range_lem, of_range, range_once}
use Rattle.fraction.specs.Divisors.{lcm_all}
use Rattle.fraction.proofs.LcmLaws.{next_product, lcm_all_multiple}
use Rattle.game.specs.Game.{GameOn, Whole, Common}
use Rattle.game.proofs.Terms.{whole_degree}
use Rattle.table_spec.specs.Limits.{max_degree}
use Rattle.table_spec.specs.Layout.{bus_count, row, degree, need}
use Rattle.table_spec.specs.Holds.{Scorable}
use Rattle.table_spec.proofs.Rows.{valid_once, valid_below, valid_others, row_valid, degree-le}
use Rattle.share_spec.specs.TableNetwork.{game_of, largest_degree, divisors_of, Over}
use Rattle.share_spec.proofs.Denominator.{up_to, of_up_to, multiple_pos, multiple_le}

module _ {t : List ℕ} (w : Scorable t) where
  pub game_on : GameOn (range (bus_count t)) (game_of t)
  game_on = record {
    once = range_once (bus_count t);
    needs = λ u i. w.needed u (of_range u (bus_count t) i);
    watchers_once = λ u i. valid_once (row_valid w u (of_range u (bus_count t) i));
    watchers_inside = λ u i v m. in_range_lem v (bus_count t) (valid_below (row_valid w u (of_range u (bus_count t) i)) v m);
    watchers_other = λ u i. has-none u (row t u) (fails _ (λ e. valid_others (row_valid w u (of_range u (bus_count t) i)) (has_in u (row t u) e)));
  }

  pub largest_le : largest_degree t ≤ max_degree
  unfolding largest_degree
  largest_le = largest_below-le (degree t) max_degree _ (λ u b. degree-le w u (omega (arith, w.complete.least)))

  bounded : (k : ℕ) → k ∈ divisors_of t → (1 ≤ k) × (k ≤ 1 + max_degree)
  unfolding divisors_of
  bounded k i = let w = of_up_to _ k i in (w.0, omega (arith, w.1, largest_le))

  pub own_pos : 0 < lcm_all (divisors_of t)
  own_pos = multiple_pos (divisors_of t) bounded

  divides : (k : ℕ) → 1 ≤ k → k ≤ 1 + largest_degree t → k ∣ lcm_all (divisors_of t)
  unfolding divisors_of
  divides k a b = lcm_all_multiple _ k (up_to (1 + largest_degree t) k a b)

  -- d(d+1) divides L for each d above 0 up to the degree of a bus, since d and d + 1 share no factor
  pub fewer_divided : (d u : ℕ) → u < bus_count t → 0 < d → d ≤ degree t u → d * (d + 1) ∣ lcm_all (divisors_of t)
  unfolding largest_degree
  fewer_divided d u b p l =
      let h = largest_below-at (degree t) (bus_count t) b in next_product d _ (divides d (omega arith) (omega arith)) (divides (d + 1) (omega arith) (omega arith))

  pub own_over : {L : ℕ} → L ≡ lcm_all (divisors_of t) → Over t L
  own_over e = rw e record { divided = λ u b p. fewer_divided (degree t u) u b p (le_refl _); bounded = multiple_le (divisors_of t) bounded }

  -- where d(d+1) divides L for each degree d, L makes every term whole
  module _ {L : ℕ} (o : Over t L) where
    pub term_whole : (u : ℕ) → u < bus_count t → Whole (need t u) (degree t u) L
    term_whole u b = whole_degree (need t u) (degree t u) L (w.needed u b) (o.divided u b)

    pub over_whole : Common (range (bus_count t)) (game_of t) L
    over_whole u i = term_whole u (of_range u (bus_count t) i)
