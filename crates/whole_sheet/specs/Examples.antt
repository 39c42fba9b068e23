-- Whole sheets, computed.
use Rattle.std.specs.Prelude.{[], ◌∷◌, map, ◌≡◌, refl, replicate}
use Rattle.lists.specs.Lists.{at}
use Rattle.lists.specs.Below.{all_below, largest_below, sum_below, join_below, map_below}
use Rattle.refusals.specs.Outcomes.{gives, refuses}
use Rattle.text.specs.Text.{decimal, filled}
use Rattle.fraction.specs.Divisors.{gcd_of, lcm_of, lcm_all}
use Rattle.game.specs.Game.{own_term, neighbour_term}
use Rattle.table_spec.specs.Layout.{row_at, needs, weights, starts, neighbour_numbers, row, lines}
use Rattle.table_spec.specs.Holds.{within, complete, in_range, never_fall, short_rows, valid_entry, valid_row, valid_rows, sound_rows, mirrored, two_way, holds}
use Rattle.table_spec.specs.Examples.{path}
use Rattle.share_spec.specs.Formula.{numerator_over}
use Rattle.share_spec.specs.TableNetwork.{largest_degree, divisors_of}
use Rattle.two_way.specs.TwoWay.{network_of}
use Rattle.whole_sheet.specs.WholeSheet.{sheet_outcome, sheet_after}

-- 59 bytes: a byte too few, enough, and one byte more; no network, however few bytes are lent
path-answers :
    (map (sheet_outcome (network_of (path 1))) (0 ∷ 58 ∷ 59 ∷ 60 ∷ []) ≡ refuses 14 ∷ refuses 14 ∷ gives 59 ∷ gives 59 ∷ [])
    × (map (sheet_outcome (network_of (path 0))) (0 ∷ 99 ∷ []) ≡ refuses 11 ∷ refuses 11 ∷ [])
unfolding path filled decimal numerator_over own_term neighbour_term divisors_of largest_degree largest_below lcm_all lcm_of gcd_of map_below join_below lines sum_below holds two_way complete within in_range sound_rows never_fall short_rows valid_rows valid_row valid_entry mirrored all_below row_at needs weights starts neighbour_numbers row at
path-answers = (refl, refl)

-- the sheet of one bus without lines, `buses 1 lines 0 over 1` and `0 1 0 1 1/1`, in front of what stood behind it; refused, nothing is changed
lone-after :
    (sheet_after (network_of (1 ∷ 1 ∷ 1 ∷ 0 ∷ 0 ∷ [])) (replicate 37 7)
    ≡ 98 ∷ 117 ∷ 115 ∷ 101 ∷ 115 ∷ 32 ∷ 49 ∷ 32 ∷ 108 ∷ 105 ∷ 110 ∷ 101 ∷ 115 ∷ 32 ∷ 48 ∷ 32 ∷ 111 ∷ 118 ∷ 101 ∷ 114 ∷ 32 ∷ 49 ∷ 10 ∷ 48 ∷ 32 ∷ 49 ∷ 32 ∷ 48 ∷ 32 ∷ 49 ∷ 32 ∷ 49 ∷ 47 ∷ 49 ∷ 10 ∷ 7 ∷ 7 ∷ [])
    × (sheet_after (network_of (1 ∷ 1 ∷ 1 ∷ 0 ∷ 0 ∷ [])) (7 ∷ 8 ∷ []) ≡ 7 ∷ 8 ∷ [])
unfolding filled decimal numerator_over own_term neighbour_term divisors_of largest_degree largest_below lcm_all lcm_of gcd_of map_below join_below lines sum_below holds two_way complete within in_range sound_rows never_fall short_rows valid_rows valid_row valid_entry mirrored all_below row_at needs weights starts neighbour_numbers row at
lone-after = (refl, refl)
