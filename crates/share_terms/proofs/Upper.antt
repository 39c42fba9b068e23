-- The least common multiple of 1 to m is that of the upper half, since each number up to m / 2 divides its double.
use mathlib.Core.Path.{◌≡◌, ap, ap₂, subst, ◌∙◌}
use Prim.Native.Nat.{ℕ, zero, suc, ◌+◌, ◌-◌, ◌*◌, ◌/◌, ◌≤◌, ◌<◌, ◌∣◌}
use native.Mathlib.Nat.{dvd_trans, dvd_antisymm, dvd-mul_left}
use native.Mathlib.Omega.{arith}
use borrow.Author.Tests.{leb-true, leb-false}
use lib.Dec.{leb}
use Rattle.lists.specs.Lists.{◌∈◌}
use Rattle.lists.specs.Below.{join_below, map_below}
use Rattle.lists.proofs.Tests.{split}
use Rattle.lists.proofs.JoinBelow.{in_map_below, of_map_below}
use Rattle.fraction.specs.Divisors.{lcm_of, lcm_all}
use Rattle.fraction.proofs.LcmLaws.{lcm_all_multiple, lcm_all_least, lcm_all-next}
use Rattle.table_spec.specs.Limits.{max_degree}
use Rattle.share_spec.specs.TableNetwork.{max_denominator}
use Rattle.share_spec.proofs.Denominator.{up_to, of_up_to, multiple_le}

-- the numbers behind m / 2, from 0 on
abbrev behind : ℕ → ℕ → ℕ
behind m i = suc (m / 2 + i)

-- the multiple of the first n of them
unfoldable pub upper : ℕ → ℕ → ℕ
upper m n = lcm_all (map_below n (behind m))

module _ (m : ℕ) where
  pub upper_start : 1 ≡ upper m (m / 2 - m / 2)
  unfolding upper lcm_all map_below join_below
  upper_start = let z : m / 2 - m / 2 ≡ 0 = omega arith in rw z

  -- one number more: those up to k were folded
  pub upper-next : {k l : ℕ} → m / 2 ≤ k → l ≡ upper m (k - m / 2) → lcm_of (k + 1) l ≡ upper m (k + 1 - m / 2)
  unfolding upper
  upper-next {k} {l} h e =
      let a : k + 1 ≡ suc (m / 2 + (k - m / 2)) = omega arith in
      let b : k - m / 2 + 1 ≡ k + 1 - m / 2 = omega arith in
      ap₂ lcm_of a e ∙ lcm_all-next (behind m) (k - m / 2) ∙ ap (λ n. lcm_all (map_below n (behind m))) b

  pub upper-le : (n : ℕ) → m / 2 + n ≤ 1 + max_degree → upper m n ≤ max_denominator
  unfolding upper
  upper-le n h = multiple_le _ (λ x i. let w = of_map_below (behind m) n x i in (omega (arith, w.2), omega (arith, w.1, w.2)))

  in_upper : (k : ℕ) → m / 2 < k → k ≤ m → k ∣ upper m (m - m / 2)
  unfolding upper
  in_upper k a b =
      let e : suc (m / 2 + (k - m / 2 - 1)) ≡ k = omega arith in
      lcm_all_multiple _ k (subst (λ x. x ∈ map_below (m - m / 2) (behind m)) e (in_map_below (behind m) (m - m / 2) (omega arith)))

  -- a number up to m divides it: it stands in the upper half, or its double divides it, and so on, n times at most
  all_divide : (n k : ℕ) → 1 ≤ k → k ≤ m → m ≤ n + k → k ∣ upper m (m - m / 2)
  all_divide zero k a b h = in_upper k (omega arith) b
  all_divide (suc n) k a b h =
      split (leb k (m / 2))
      (λ t. let g = leb-true k (m / 2) t in dvd_trans k (dvd-mul_left k 2) (all_divide n (2 * k) (omega arith) (omega arith) (omega arith)))
      (λ t. in_upper k (leb-false k (m / 2) t) b)

  pub upper_half : upper m (m - m / 2) ≡ lcm_all (map_below m suc)
  unfolding upper
  upper_half =
      dvd_antisymm
      (lcm_all_least (map_below (m - m / 2) (behind m)) _ (λ x i. let w = of_map_below (behind m) (m - m / 2) x i in lcm_all_multiple (map_below m suc) x (up_to m x (omega (arith, w.2)) (omega (arith, w.1, w.2)))))
      (lcm_all_least (map_below m suc) _ (λ x i. let w = of_up_to m x i in all_divide m x w.0 w.1 (omega arith)))
