-- How the code sums a numerator: the own term, which is what is left of L, and then term by term along the row, each times a weight.
use mathlib.Core.List.{List}
use mathlib.Core.Path.{◌≡◌, ap, ap₂, ◌∙◌}
use Prim.Native.Nat.{ℕ, ◌+◌, ◌-◌, ◌*◌, ◌≤◌, ◌<◌}
use native.Mathlib.Nat.{mul-le-mul}
use native.Mathlib.Omega.{arith}
use borrow.Author.Tests.{ltb-true, ltb-false}
use lib.Dec.{ltb}
use lib.ListN.{length, take, get_or-eq_default}
use lib.Seq.{take_all, length-take-le}
use Rattle.lists.specs.Lists.{sum_by, at}
use Rattle.lists.proofs.Tests.{split}
use Rattle.lists.proofs.Loops.{sum_by_take_next}
use Rattle.lists.proofs.Places.{in_at}
use Rattle.lists.proofs.Sums.{sum_by_const, sum_by_le}
use Rattle.game.specs.Game.{own_term, neighbour_term, own, neighbour}
use Rattle.game.proofs.Terms.{terms_whole}
use Rattle.table_spec.specs.Limits.{max_degree, max_weight}
use Rattle.table_spec.specs.Layout.{bus_count, weights, row, degree, need, weight}
use Rattle.table_spec.specs.Holds.{Scorable}
use Rattle.table_spec.proofs.Rows.{valid_below, length-weights, row_valid, degree-le}
use Rattle.share_spec.specs.TableNetwork.{game_of, max_denominator, Over}
use Rattle.share_spec.specs.Formula.{numerator_over}
use Rattle.share_spec.proofs.TermBounds.{term_le, own_rest}
use Rattle.share_spec.proofs.TableGame.{term_whole}
use Rattle.two_way.specs.TwoWay.{network_of}

-- the own term, and the terms of the first k neighbours
unfoldable pub summed : List ℕ → ℕ → ℕ → ℕ → ℕ
summed t L bus k = own (game_of t) L bus + sum_by (neighbour (game_of t) L) (take k (row t bus))

-- no sum of them is above this, which is far below 2 ^ 64
abbrev pub most : ℕ
most = (2 + max_degree) * (max_weight * max_denominator)

module _ {t : List ℕ} (w : Scorable t) where
  -- a number that is no bus has no weight
  weight-le : (u : ℕ) → weight t u ≤ max_weight
  unfolding at
  weight-le u =
      split (ltb u (bus_count t)) (λ e. w.weighed u (ltb-true u (bus_count t) e))
      (λ e. omega (arith, get_or-eq_default (weights t) 0 {n = u} (omega (arith, ltb-false u (bus_count t) e, length-weights t w.complete))))

  neighbour-le : (L u : ℕ) → neighbour (game_of t) L u ≤ max_weight * L
  neighbour-le L u = mul-le-mul {n₁ = weight t u} {n₂ = max_weight} (weight-le u) (term_le (need t u) (degree t u) L)

-- the row r of a bus, as code has it
module _ {t : List ℕ} (w : Scorable t) {L : ℕ} (o : Over t L) {bus : ℕ} {r : List ℕ} (b : bus < bus_count t) (er : r ≡ row t bus) where
  -- x, which a bus of weight 1 would give to each neighbour
  module _ {x : ℕ} (ex : x ≡ neighbour_term (need t bus) (degree t bus) L) where
    rest : own_term (need t bus) (degree t bus) L + length r * x ≡ L
    rest = rw (er, ex) (terms_whole (need t bus) (degree t bus) L (term_whole w o bus b))

    pub rest_fits : length r * x ≤ L
    rest_fits = omega (arith, rest)

    -- and y, the weight of the bus
    module _ {y : ℕ} (ey : y ≡ weight t bus) where
      pub own_fits : y * (L - length r * x) ≤ max_weight * max_denominator
      own_fits = mul-le-mul {n₁ = y} {m₁ = L - length r * x} {n₂ = max_weight} {m₂ = max_denominator} (omega (arith, w.weighed bus b)) (omega (arith, o.bounded))

      pub sum_start : y * (L - length r * x) ≡ summed t L bus 0
      unfolding summed
      sum_start = let e : L - length r * x ≡ own_term (need t bus) (degree t bus) L = omega (arith, rest) in rw (e, ey) (omega arith)

  pub sum_end : {sum k : ℕ} → sum ≡ summed t L bus k → length r ≤ k → sum ≡ numerator_over (network_of t) L bus
  unfolding summed numerator_over
  sum_end e l = e ∙ ap (λ r. own (game_of t) L bus + sum_by (neighbour (game_of t) L) r) (take_all _ _ (rw er at l))

  -- neighbour k
  module _ {k : ℕ} (l : k < length r) where
    abbrev j : ℕ
    j = at r k

    pub neighbour_in : j < bus_count t
    neighbour_in = valid_below (row_valid w bus b) j (rw er (in_at (row t bus) k (rw er at l)))

    -- y is its weight, and x what it would give with weight 1
    module _ {x y : ℕ} (ex : x ≡ neighbour_term (need t j) (degree t j) L) (ey : y ≡ weight t j) where
      given_is : y * x ≡ neighbour (game_of t) L j
      given_is = ap₂ ◌*◌ ey ex

      pub given_fits : y * x ≤ max_weight * max_denominator
      given_fits = omega (arith, given_is, neighbour-le w L j, o.bounded)

      module _ {sum : ℕ} (e : sum ≡ summed t L bus k) where
        pub sum-next : sum + y * x ≡ summed t L bus (k + 1)
        unfolding summed
        sum-next =
            omega (arith, e, given_is, ap (neighbour (game_of t) L) (ap (λ r. at r k) er), sum_by_take_next (neighbour (game_of t) L) (row t bus) k (rw er at l))

        pub sum_fits : sum + y * x ≤ most
        unfolding summed
        sum_fits =
            let first = take k (row t bus) in
            omega (
              arith,
              e,
              given_fits,
              sum_by_le (neighbour-le w L) first,
              sum_by_const (max_weight * L) first,
              o.bounded,
              own_rest (game_of t) L bus (term_whole w o bus b),
              mul-le-mul {n₁ = weight t bus} {m₁ = L} {n₂ = max_weight} {m₂ = max_denominator} (w.weighed bus b) o.bounded,
              mul-le-mul {n₁ = length first} {m₁ = max_weight * L} {n₂ = max_degree} {m₂ = max_weight * max_denominator}
                  (omega (arith, length-take-le k (row t bus) (omega (arith, ap length er)), ap length er, degree-le w bus b)) (omega (arith, o.bounded)),
            )
