-- The common denominator is the least common multiple that is named, and of numbers from 1 to 24 it is never above 5,354,228,880.
use Rattle.std.specs.Prelude.{List, ◌≡◌, refl, ℕ, suc, ◌+◌, ◌-◌, ◌≤◌, ◌<◌}
use Rattle.std.proofs.Common.{subst, arith}
use Rattle.std.specs.Int.{◌∣◌}
use Rattle.std.proofs.Math.Nat.{le_of_dvd, dvd_antisymm, pos_of_dvd_of_pos}
use Rattle.lists.specs.Lists.{◌∈◌}
use Rattle.lists.specs.Below.{join_below, map_below}
use Rattle.lists.proofs.JoinBelow.{in_map_below, of_map_below}
use Rattle.fraction.specs.Divisors.{gcd_of, lcm_of, lcm_all}
use Rattle.fraction.proofs.LcmLaws.{lcm_all_multiple, lcm_all_least, lcm_all-part}
use Rattle.table_spec.specs.Limits.{max_degree}
use Rattle.share_spec.specs.Network.{Network, denominator}
use Rattle.share_spec.specs.TableNetwork.{max_denominator}
use Rattle.share_spec.specs.Formula.{CommonDenominator}

module _ (N : Network) where
  -- THE DENOMINATOR
  pub common_denominator : CommonDenominator N (denominator N)
  common_denominator = record { common = λ k i. lcm_all_multiple N.divisors k i; least = λ m h. lcm_all_least N.divisors m h }

  -- and there is no other
  pub denominator_only : {L : ℕ} → CommonDenominator N L → L ≡ denominator N
  denominator_only i = dvd_antisymm (i.least _ common_denominator.common) (common_denominator.least _ i.common)

-- ---- the numbers 1, 2, .. up to m

pub up_to : (m k : ℕ) → 1 ≤ k → k ≤ m → k ∈ map_below m suc
up_to m k a b = let q : suc (k - 1) ≡ k = omega arith in subst (λ x. x ∈ map_below m suc) q (in_map_below suc m (omega arith))

pub of_up_to : (m k : ℕ) → k ∈ map_below m suc → (1 ≤ k) × (k ≤ m)
of_up_to m k i = let w = of_map_below suc m k i in (omega (arith, w.2), omega (arith, w.1, w.2))

top : lcm_all (map_below (1 + max_degree) suc) ≡ max_denominator
unfolding lcm_all lcm_of gcd_of map_below join_below
top = refl

-- that of fewer numbers divides it, so it is above zero and no larger
module _ (l : List ℕ) (h : (k : ℕ) → k ∈ l → (1 ≤ k) × (k ≤ 1 + max_degree)) where
  multiple_divides : lcm_all l ∣ max_denominator
  multiple_divides =
      rw top at (lcm_all-part l (map_below (1 + max_degree) suc) (λ k i. up_to (1 + max_degree) k (h k i).0 (h k i).1))

  pub multiple_pos : 0 < lcm_all l
  multiple_pos = pos_of_dvd_of_pos multiple_divides (omega arith)

  pub multiple_le : lcm_all l ≤ max_denominator
  multiple_le = le_of_dvd (omega arith) multiple_divides
