-- Answers of Shares and Share, computed.
use Rattle.std.specs.Prelude.{List, [], ◌∷◌, map, ◌≡◌, refl, ℕ, length}
use Rattle.lists.specs.Lists.{at}
use Rattle.lists.specs.Below.{all_below, largest_below, join_below, map_below}
use Rattle.refusals.specs.Outcomes.{Outcome, gives, refuses}
use Rattle.fraction.specs.Divisors.{gcd_of, lcm_of, lcm_all}
use Rattle.game.specs.Game.{own_term, neighbour_term}
use Rattle.table_spec.specs.Layout.{row_at, needs, weights, starts, neighbour_numbers, row}
use Rattle.table_spec.specs.Holds.{within, complete, in_range, never_fall, short_rows, valid_entry, valid_row, valid_rows, sound_rows, mirrored, two_way, holds}
use Rattle.table_spec.specs.Examples.{path, weighted}
use Rattle.share_spec.specs.TableNetwork.{game_of, largest_degree, divisors_of}
use Rattle.share_spec.specs.Formula.{numerator_over}
use Rattle.share_spec.specs.TermsGiven.{term_to}
use Rattle.two_way.specs.TwoWay.{network_of}
use Rattle.share_spec.specs.ShareOutcomes.{shares_outcome, stored_numerators, numerators_after, share_outcome}

-- over 6: bus 0 of Path keeps 3 and gives 3 to bus 1, which keeps 2, 4 or 6 by its need and gives the rest to both ends
given :
    (map_below 3 (term_to (game_of (path 1)) 6 0) ≡ 3 ∷ 3 ∷ 0 ∷ [])
    × (map_below 3 (term_to (game_of (path 1)) 6 1) ≡ 2 ∷ 2 ∷ 2 ∷ [])
    × (map_below 3 (term_to (game_of (path 2)) 6 1) ≡ 1 ∷ 4 ∷ 1 ∷ [])
    × (map_below 3 (term_to (game_of (path 3)) 6 1) ≡ 0 ∷ 6 ∷ 0 ∷ [])
unfolding path term_to own_term neighbour_term map_below join_below row_at needs weights starts neighbour_numbers row at
given = (refl, refl, refl, refl)

-- a table, entries lent, the answer of Shares, and the entries after it
record Case : Type 0 where
  table : List ℕ
  lent : List ℕ
  answer : Outcome ℕ
  after : List ℕ

case : List ℕ → List ℕ → Outcome ℕ → List ℕ → Case
case t lent answer after = record { table = t; lent = lent; answer = answer; after = after }

cases : List Case
unfolding path weighted case
cases =
    case (path 1) (9 ∷ 9 ∷ 9 ∷ []) (gives 6) (5 ∷ 8 ∷ 5 ∷ [])
    ∷ case (path 2) (9 ∷ 9 ∷ 9 ∷ 9 ∷ 7 ∷ []) (gives 6) (4 ∷ 10 ∷ 4 ∷ 9 ∷ 7 ∷ [])
    ∷ case (1 ∷ 1 ∷ 1 ∷ 0 ∷ 0 ∷ 5 ∷ []) (9 ∷ 9 ∷ []) (gives 1) (1 ∷ 9 ∷ [])
    ∷ case (weighted 1 5 2) (9 ∷ 9 ∷ 9 ∷ []) (gives 6) (13 ∷ 19 ∷ 16 ∷ [])
    -- an entry too few; no network, whatever is lent
    ∷ case (path 1) (9 ∷ 9 ∷ []) (refuses 12) (9 ∷ 9 ∷ [])
    ∷ case [] [] (refuses 11) []
    ∷ case (path 0) (9 ∷ 9 ∷ 9 ∷ []) (refuses 11) (9 ∷ 9 ∷ 9 ∷ [])
    -- a need that cannot be met, with lines and without
    ∷ case (path 3) (9 ∷ 9 ∷ 9 ∷ []) (refuses 11) (9 ∷ 9 ∷ 9 ∷ [])
    ∷ case (1 ∷ 2 ∷ 1 ∷ 0 ∷ 0 ∷ []) (9 ∷ 9 ∷ []) (refuses 11) (9 ∷ 9 ∷ [])
    -- weight 0, and one above the limit
    ∷ case (weighted 1 0 1) (9 ∷ 9 ∷ 9 ∷ []) (refuses 11) (9 ∷ 9 ∷ 9 ∷ [])
    ∷ case (weighted 1 1 1001) (9 ∷ 9 ∷ 9 ∷ []) (refuses 11) (9 ∷ 9 ∷ 9 ∷ [])
    -- both: 11, which is tested first
    ∷ case (path 0) (9 ∷ 9 ∷ []) (refuses 11) (9 ∷ 9 ∷ [])
    ∷ []

all-shares : map (λ c. let N = network_of c.table in let x = c.lent in case c.table x (shares_outcome N (length x)) (numerators_after N x)) cases ≡ cases
unfolding cases stored_numerators numerator_over own_term neighbour_term divisors_of largest_degree largest_below lcm_all lcm_of gcd_of map_below join_below holds two_way complete within in_range sound_rows never_fall short_rows valid_rows valid_row valid_entry mirrored row_at needs weights starts neighbour_numbers row at all_below
all-shares = refl

one-share :
    (map (share_outcome (network_of (path 2))) (0 ∷ 1 ∷ 2 ∷ 3 ∷ []) ≡ gives (4, 6) ∷ gives (10, 6) ∷ gives (4, 6) ∷ refuses 13 ∷ [])
    × (map (λ k. share_outcome (network_of (path k)) 3) (0 ∷ 3 ∷ []) ≡ refuses 11 ∷ refuses 11 ∷ [])
    × (map (share_outcome (network_of (weighted 1 5 2))) (0 ∷ 1 ∷ 2 ∷ []) ≡ gives (13, 6) ∷ gives (19, 6) ∷ gives (16, 6) ∷ [])
unfolding path weighted numerator_over own_term neighbour_term divisors_of largest_degree largest_below lcm_all lcm_of gcd_of map_below join_below holds two_way complete within in_range sound_rows never_fall short_rows valid_rows valid_row valid_entry mirrored row_at needs weights starts neighbour_numbers row at all_below
one-share = (refl, refl, refl)
