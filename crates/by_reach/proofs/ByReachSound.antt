-- Crowds make a network whose shares are defined.
use Rattle.std.specs.Prelude.{Bool, List, refl, ℕ, ◌+◌, ◌≤◌, ◌<◌, length}
use Rattle.std.proofs.Common.{arith}
use Rattle.lists.specs.Lists.{◌∈◌}
use Rattle.lists.specs.Below.{map_below, range}
use Rattle.lists.proofs.Counts.{in_length}
use Rattle.lists.proofs.SumsBelow.{in_range_lem, of_range}
use Rattle.lists.proofs.JoinBelow.{in_map_below, of_map_below}
use Rattle.fraction.proofs.LcmLaws.{lcm_all_multiple}
use Rattle.game.specs.CrowdGame.{Crowds}
use Rattle.game.proofs.Reach.{reach_on, reach_common}
use Rattle.table_spec.specs.Limits.{max_degree}
use Rattle.share_spec.specs.Network.{Sound}
use Rattle.share_spec.proofs.FairFormula.{watching-converse}
use Rattle.share_spec.proofs.Denominator.{multiple_pos}
use Rattle.by_reach.specs.ByReach.{by_reach}

module _ (held : Bool) (n m : ℕ) (reaches degrees : ℕ → ℕ) (crowd : ℕ → List ℕ) (w : Crowds (range n) crowd)
    (bounded : (u : ℕ) → u < n → length (crowd u) ≤ 1 + max_degree) where
  sizes : (k : ℕ) → k ∈ map_below n (λ u. length (crowd u)) → (1 ≤ k) × (k ≤ 1 + max_degree)
  sizes k i =
      let x = of_map_below (λ u. length (crowd u)) n k i in
      let own = in_length x.0 (crowd x.0) (w.crowd_own x.0 (in_range_lem x.0 n x.1)) in
      (omega (arith, x.2), omega (arith, x.2, bounded x.0 x.1))

  pub sound : Sound (by_reach held n m reaches degrees crowd)
  sound = record {
    watching = watching-converse (by_reach held n m reaches degrees crowd) refl (reach_on (range n) crowd (λ u. 1) w);
    positive = multiple_pos _ sizes;
    whole = reach_common (range n) crowd (λ u. 1) w _ (λ u i. lcm_all_multiple _ _ (in_map_below (λ u. length (crowd u)) n (of_range u n i)));
  }
