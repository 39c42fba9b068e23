-- Shares of the scope's networks, computed.
use Rattle.std.specs.Prelude.{List, [], ◌∷◌, map, ◌≡◌, refl, ℕ}
use Rattle.lists.specs.Lists.{at}
use Rattle.lists.specs.Below.{largest_below, join_below, map_below}
use Rattle.fraction.specs.Divisors.{gcd_of, lcm_of, lcm_all}
use Rattle.game.specs.Game.{own_term, neighbour_term}
use Rattle.table_spec.specs.Layout.{row_at, needs, weights, starts, neighbour_numbers, row}
use Rattle.table_spec.specs.Examples.{path, weighted, star}
use Rattle.share_spec.specs.Network.{denominator}
use Rattle.share_spec.specs.TableNetwork.{largest_degree, divisors_of}
use Rattle.share_spec.specs.Formula.{numerator_over, numerator}
use Rattle.two_way.specs.TwoWay.{network_of}

-- one bus with need k, and no line
lone : ℕ → List ℕ
lone k = 1 ∷ k ∷ 1 ∷ 0 ∷ 0 ∷ []

-- two buses, one line
pair : List ℕ
pair = 2 ∷ 1 ∷ 1 ∷ 1 ∷ 1 ∷ 0 ∷ 1 ∷ 2 ∷ 1 ∷ 0 ∷ []

-- three buses, a line between any two, needs k
triangle : ℕ → List ℕ
triangle k = 3 ∷ k ∷ k ∷ k ∷ 1 ∷ 1 ∷ 1 ∷ 0 ∷ 2 ∷ 4 ∷ 6 ∷ 1 ∷ 2 ∷ 0 ∷ 2 ∷ 0 ∷ 1 ∷ []

-- two buses with a line between them, and a third alone that needs 2
apart : List ℕ
apart = 3 ∷ 1 ∷ 1 ∷ 2 ∷ 1 ∷ 1 ∷ 1 ∷ 0 ∷ 1 ∷ 2 ∷ 2 ∷ 1 ∷ 0 ∷ []

-- a network, its numerators, and the number that they are over
record Case : Type 0 where
  table : List ℕ
  numerators : List ℕ
  over : ℕ

case : List ℕ → List ℕ → ℕ → Case
case t numerators over = record { table = t; numerators = numerators; over = over }

-- the scope's starred networks, one with a bus alone, and Path with weights. The formula gives values also where a need cannot be met, and the table holds no network
cases : List Case
unfolding lone pair path weighted triangle apart case
cases =
    case (lone 1) (1 ∷ []) 1
    ∷ case (lone 24) (1 ∷ []) 1
    ∷ case pair (2 ∷ 2 ∷ []) 2
    ∷ case (path 1) (5 ∷ 8 ∷ 5 ∷ []) 6
    ∷ case (path 2) (4 ∷ 10 ∷ 4 ∷ []) 6
    ∷ case (path 3) (3 ∷ 12 ∷ 3 ∷ []) 6
    ∷ case (triangle 1) (6 ∷ 6 ∷ 6 ∷ []) 6
    ∷ case (triangle 2) (6 ∷ 6 ∷ 6 ∷ []) 6
    ∷ case apart (2 ∷ 2 ∷ 2 ∷ []) 2
    -- bus 0 has 3 for itself and 2 times 5 for bus 1
    ∷ case (weighted 1 5 2) (13 ∷ 19 ∷ 16 ∷ []) 6
    ∷ case (weighted 1000 1 1) (3002 ∷ 3005 ∷ 5 ∷ []) 6
    ∷ []

by_formula : map (λ c. let N = network_of c.table in case c.table (map_below N.buses (numerator N)) (denominator N)) cases ≡ cases
unfolding cases numerator_over own_term neighbour_term divisors_of largest_degree largest_below lcm_all lcm_of gcd_of map_below join_below row row_at needs weights starts neighbour_numbers at
by_formula = refl

-- Path without its line 0, over the L of Path: the scope's formula gives each bus 6, so the changes are 1, -2 and 1
weakened : (let N = network_of (3 ∷ 1 ∷ 1 ∷ 1 ∷ 1 ∷ 1 ∷ 1 ∷ 0 ∷ 0 ∷ 1 ∷ 2 ∷ 2 ∷ 1 ∷ []) in map_below 3 (numerator_over N 6)) ≡ 6 ∷ 6 ∷ 6 ∷ []
unfolding numerator_over own_term neighbour_term map_below join_below row row_at needs weights starts neighbour_numbers at
weakened = refl

-- the scope's star of 24 buses: L, the centre, a leaf
star-shares : (let N = network_of (star 23) in denominator N ∷ numerator N 0 ∷ numerator N 23 ∷ []) ≡ 5354228880 ∷ 61796724990 ∷ 2900207310 ∷ []
unfolding star numerator_over own_term neighbour_term divisors_of largest_degree largest_below lcm_all lcm_of gcd_of map_below join_below row row_at needs weights starts neighbour_numbers at
star-shares = refl
