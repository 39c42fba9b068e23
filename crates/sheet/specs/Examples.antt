-- The sheet of Path in the scope, computed byte by byte, and how calls come out.
use Rattle.std.specs.Prelude.{[], ◌∷◌, map, ◌≡◌, refl}
use Rattle.lists.specs.Lists.{at}
use Rattle.lists.specs.Below.{all_below, largest_below, sum_below, join_below, map_below}
use Rattle.refusals.specs.Outcomes.{gives, refuses}
use Rattle.text.specs.Text.{decimal, filled}
use Rattle.fraction.specs.Divisors.{gcd_of, lcm_of, lcm_all}
use Rattle.game.specs.Game.{own_term, neighbour_term}
use Rattle.table_spec.specs.Layout.{row_at, needs, weights, starts, neighbour_numbers, row, lines}
use Rattle.table_spec.specs.Holds.{within, complete, in_range, never_fall, short_rows, valid_entry, valid_row, valid_rows, sound_rows, mirrored, two_way, holds}
use Rattle.table_spec.specs.Examples.{path, weighted}
use Rattle.share_spec.specs.Formula.{numerator_over}
use Rattle.share_spec.specs.TableNetwork.{largest_degree, divisors_of}
use Rattle.two_way.specs.TwoWay.{network_of}
use Rattle.sheet.specs.Sheet.{sheet_line}
use Rattle.sheet.specs.LineOutcomes.{line_outcome, line_after}

-- `buses 3 lines 2 over 6`, `0 1 1 5 5/6`, `1 1 2 8 4/3` and `2 1 1 5 5/6`
path-lines :
    map (sheet_line (network_of (path 1))) (0 ∷ 1 ∷ 2 ∷ 3 ∷ [])
    ≡ (98 ∷ 117 ∷ 115 ∷ 101 ∷ 115 ∷ 32 ∷ 51 ∷ 32 ∷ 108 ∷ 105 ∷ 110 ∷ 101 ∷ 115 ∷ 32 ∷ 50 ∷ 32 ∷ 111 ∷ 118 ∷ 101 ∷ 114 ∷ 32 ∷ 54 ∷ 10 ∷ [])
    ∷ (48 ∷ 32 ∷ 49 ∷ 32 ∷ 49 ∷ 32 ∷ 53 ∷ 32 ∷ 53 ∷ 47 ∷ 54 ∷ 10 ∷ [])
    ∷ (49 ∷ 32 ∷ 49 ∷ 32 ∷ 50 ∷ 32 ∷ 56 ∷ 32 ∷ 52 ∷ 47 ∷ 51 ∷ 10 ∷ [])
    ∷ (50 ∷ 32 ∷ 49 ∷ 32 ∷ 49 ∷ 32 ∷ 53 ∷ 32 ∷ 53 ∷ 47 ∷ 54 ∷ 10 ∷ [])
    ∷ []
unfolding path filled decimal numerator_over own_term neighbour_term divisors_of largest_degree largest_below lcm_all lcm_of gcd_of map_below join_below lines sum_below row_at needs weights starts neighbour_numbers row at
path-lines = refl

-- with need 3 at bus 1, which no call accepts, its line would be `1 3 2 12 2/1`
path_three : sheet_line (network_of (path 3)) 2 ≡ 49 ∷ 32 ∷ 51 ∷ 32 ∷ 50 ∷ 32 ∷ 49 ∷ 50 ∷ 32 ∷ 50 ∷ 47 ∷ 49 ∷ 10 ∷ []
unfolding path filled decimal numerator_over own_term neighbour_term divisors_of largest_degree largest_below lcm_all lcm_of gcd_of map_below join_below lines sum_below row_at needs weights starts neighbour_numbers row at
path_three = refl

-- the weight of a bus stands in no column: with weights 1, 5 and 2 the lines are `0 1 1 13 13/6`, `1 1 2 19 19/6` and `2 1 1 16 8/3`
weighted-lines :
    map (sheet_line (network_of (weighted 1 5 2))) (1 ∷ 2 ∷ 3 ∷ [])
    ≡ (48 ∷ 32 ∷ 49 ∷ 32 ∷ 49 ∷ 32 ∷ 49 ∷ 51 ∷ 32 ∷ 49 ∷ 51 ∷ 47 ∷ 54 ∷ 10 ∷ [])
    ∷ (49 ∷ 32 ∷ 49 ∷ 32 ∷ 50 ∷ 32 ∷ 49 ∷ 57 ∷ 32 ∷ 49 ∷ 57 ∷ 47 ∷ 54 ∷ 10 ∷ [])
    ∷ (50 ∷ 32 ∷ 49 ∷ 32 ∷ 49 ∷ 32 ∷ 49 ∷ 54 ∷ 32 ∷ 56 ∷ 47 ∷ 51 ∷ 10 ∷ [])
    ∷ []
unfolding weighted filled decimal numerator_over own_term neighbour_term divisors_of largest_degree largest_below lcm_all lcm_of gcd_of map_below join_below lines sum_below row_at needs weights starts neighbour_numbers row at
weighted-lines = refl

-- no network; no line 4, however few bytes are lent; a byte too few; enough, and one byte more
path-answers :
    (line_outcome (network_of (path 0)) 9 0 ≡ refuses 11)
    × (map (line_outcome (network_of (path 1)) 4) (0 ∷ 99 ∷ []) ≡ refuses 13 ∷ refuses 13 ∷ [])
    × (map (line_outcome (network_of (path 1)) 0) (22 ∷ 23 ∷ 24 ∷ []) ≡ refuses 14 ∷ gives 23 ∷ gives 23 ∷ [])
    × (map (line_outcome (network_of (path 1)) 3) (11 ∷ 12 ∷ []) ≡ refuses 14 ∷ gives 12 ∷ [])
unfolding path filled decimal numerator_over own_term neighbour_term divisors_of largest_degree largest_below lcm_all lcm_of gcd_of map_below join_below lines sum_below holds two_way complete within in_range sound_rows never_fall short_rows valid_rows valid_row valid_entry mirrored all_below row_at needs weights starts neighbour_numbers row at
path-answers = (refl, refl, refl, refl)

-- the line at the front, and what stood behind it; refused, nothing is changed
path-after :
    (line_after (network_of (path 1)) 1 (7 ∷ 7 ∷ 7 ∷ 7 ∷ 7 ∷ 7 ∷ 7 ∷ 7 ∷ 7 ∷ 7 ∷ 7 ∷ 7 ∷ 7 ∷ 8 ∷ []) ≡ 48 ∷ 32 ∷ 49 ∷ 32 ∷ 49 ∷ 32 ∷ 53 ∷ 32 ∷ 53 ∷ 47 ∷ 54 ∷ 10 ∷ 7 ∷ 8 ∷ [])
    × (line_after (network_of (path 1)) 1 (7 ∷ 8 ∷ []) ≡ 7 ∷ 8 ∷ [])
unfolding path filled decimal numerator_over own_term neighbour_term divisors_of largest_degree largest_below lcm_all lcm_of gcd_of map_below join_below lines sum_below holds two_way complete within in_range sound_rows never_fall short_rows valid_rows valid_row valid_entry mirrored all_below row_at needs weights starts neighbour_numbers row at
path-after = (refl, refl)
