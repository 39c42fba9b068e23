-- Three buses with one-way lines, computed.
use mathlib.Core.List.{List, [], ◌∷◌, map, flat_map}
use Rattle.std.specs.Prelude.{◌≡◌, refl, ℕ}
use Rattle.lists.specs.Lists.{sum_by, at}
use Rattle.lists.specs.Below.{all_below, largest_below, join_below, map_below, list_below, range}
use Rattle.refusals.specs.Outcomes.{gives, refuses}
use Rattle.fraction.specs.Divisors.{gcd_of, lcm_of, lcm_all}
use Rattle.game.specs.Orders.{orders}
use Rattle.game.specs.Game.{seen, value, gain, own_term, neighbour_term}
use Rattle.table_spec.specs.Layout.{row_at, needs, weights, starts, neighbour_numbers, row}
use Rattle.table_spec.specs.Holds.{within, complete, in_range, never_fall, short_rows, valid_entry, valid_row, valid_rows, sound_rows, holds_one_way}
use Rattle.share_spec.specs.Formula.{numerator_over}
use Rattle.share_spec.specs.TableNetwork.{largest_degree, divisors_of, game_of}
use Rattle.share_spec.specs.ShareOutcomes.{shares_outcome, stored_numerators, numerators_after, share_outcome}
use Rattle.one_way.specs.OneWay.{one_way}

-- records 0 1, 0 2 and 1 2, need k at bus 2, weights 1: none leads into bus 0, one into bus 1, two into bus 2
feeder : ℕ → List ℕ
feeder k = 3 ∷ 1 ∷ 1 ∷ k ∷ 1 ∷ 1 ∷ 1 ∷ 0 ∷ 0 ∷ 1 ∷ 3 ∷ 0 ∷ 0 ∷ 1 ∷ []

-- L 6; bus 0 has its own 1, 1/2 for bus 1 and 1/3 for bus 2; need 0 and need 3 at bus 2 make no network
feeder-shares :
    (shares_outcome (one_way (feeder 1)) 4 ≡ gives 6)
    × (numerators_after (one_way (feeder 1)) (9 ∷ 9 ∷ 9 ∷ 9 ∷ []) ≡ 11 ∷ 5 ∷ 2 ∷ 9 ∷ [])
    × (numerators_after (one_way (feeder 2)) (9 ∷ 9 ∷ 9 ∷ []) ≡ 10 ∷ 4 ∷ 4 ∷ [])
    × (map (share_outcome (one_way (feeder 1))) (0 ∷ 3 ∷ []) ≡ gives (11, 6) ∷ refuses 13 ∷ [])
    × (map (λ k. shares_outcome (one_way (feeder k)) 4) (0 ∷ 3 ∷ []) ≡ refuses 11 ∷ refuses 11 ∷ [])
unfolding feeder holds_one_way stored_numerators numerator_over own_term neighbour_term divisors_of largest_degree largest_below lcm_all lcm_of gcd_of map_below join_below list_below complete within in_range sound_rows never_fall short_rows valid_rows valid_row valid_entry row_at needs weights starts neighbour_numbers row at all_below
feeder-shares = (refl, refl, refl, refl, refl)

-- the gains of each bus over the six orders are its numerators
by_orders : map (λ v. sum_by (gain (game_of (feeder 1)) (range 3) v) (orders (range 3))) (0 ∷ 1 ∷ 2 ∷ []) ≡ 11 ∷ 5 ∷ 2 ∷ []
unfolding feeder gain value seen row row_at needs weights starts neighbour_numbers at map_below join_below flat_map
by_orders = refl
