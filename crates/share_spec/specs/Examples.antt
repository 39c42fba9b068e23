-- What the scope's networks have for a game and for L, computed.
use mathlib.Core.List.{[], ◌∷◌, map, flat_map}
use Rattle.std.specs.Prelude.{◌≡◌, refl}
use Rattle.lists.specs.Lists.{sum_by, at}
use Rattle.lists.specs.Below.{largest_below, join_below, map_below, range}
use Rattle.game.specs.Orders.{orders}
use Rattle.game.specs.Game.{seen, value, gain}
use Rattle.table_spec.specs.Layout.{row_at, needs, weights, starts, neighbour_numbers, row}
use Rattle.table_spec.specs.Examples.{path, weighted}
use Rattle.share_spec.specs.TableNetwork.{largest_degree, divisors_of, game_of}

-- 1 plus the largest degree is 3
divisors : divisors_of (path 1) ≡ 1 ∷ 2 ∷ 3 ∷ []
unfolding path divisors_of largest_degree largest_below map_below join_below row_at starts neighbour_numbers row at
divisors = refl

-- the gains of bus 1 of Path over the six orders, with need 1, 2 and 3: over 6 they are its numerators
by_orders : map (λ k. sum_by (gain (game_of (path k)) (range 3) 1) (orders (range 3))) (1 ∷ 2 ∷ 3 ∷ []) ≡ 8 ∷ 10 ∷ 12 ∷ []
unfolding path gain value seen row row_at needs weights starts neighbour_numbers at map_below join_below flat_map
by_orders = refl

-- the gains of each bus of Path with weights 1, 5 and 2: to see bus 1 is worth 5 to whoever makes it seen
weighted_by_orders : map (λ v. sum_by (gain (game_of (weighted 1 5 2)) (range 3) v) (orders (range 3))) (0 ∷ 1 ∷ 2 ∷ []) ≡ 13 ∷ 19 ∷ 16 ∷ []
unfolding weighted gain value seen row row_at needs weights starts neighbour_numbers at map_below join_below flat_map
weighted_by_orders = refl
