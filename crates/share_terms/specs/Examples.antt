-- Units and terms, computed.
use Rattle.std.specs.Prelude.{[], ◌∷◌, ◌≡◌, refl, ◌+◌}
use Rattle.lists.specs.Lists.{at}
use Rattle.lists.specs.Below.{join_below, map_below}
use Rattle.game.specs.Game.{neighbour_term, neighbour}
use Rattle.table_spec.specs.Layout.{row_at, needs, weights, starts, neighbour_numbers, row}
use Rattle.table_spec.specs.Examples.{path, weighted}
use Rattle.share_spec.specs.TableNetwork.{game_of}
use Rattle.share_terms.specs.Unit.{unit}
use Rattle.share_terms.specs.TermCases.{term_case}

-- 12 over 1 × 2, 2 × 3 and 3 × 4; a bus of degree 0 has no neighbour, and its unit is 0
units : map_below 4 (unit 12) ≡ 0 ∷ 6 ∷ 2 ∷ 1 ∷ []
unfolding unit map_below join_below
units = refl

-- over 6: bus 0 gives 3 to bus 1, and bus 1 gives 2 to each end if it needs 1, 1 if it needs 2, and nothing if it needs 3
given : map_below 3 (neighbour (game_of (path 1)) 6) ≡ 3 ∷ 2 ∷ 3 ∷ []
unfolding path neighbour_term map_below join_below row_at needs weights starts neighbour_numbers row at
given = refl

by_need : (neighbour (game_of (path 2)) 6 1 ∷ neighbour (game_of (path 3)) 6 1 ∷ []) ≡ 1 ∷ 0 ∷ []
unfolding path neighbour_term map_below join_below row_at needs weights starts neighbour_numbers row at
by_need = refl

-- with weights 1, 5 and 2 bus 1 gives 10 to each end
by_weight : map_below 3 (neighbour (game_of (weighted 1 5 2)) 6) ≡ 3 ∷ 10 ∷ 6 ∷ []
unfolding weighted neighbour_term map_below join_below row_at needs weights starts neighbour_numbers row at
by_weight = refl

-- need 1 to 4 at degree 3: need 1, between, equal to degree, above degree; and what that gives over 12
cases : map_below 4 (λ k. term_case (k + 1) 3) ≡ 3 ∷ 4 ∷ 2 ∷ 1 ∷ []
unfolding term_case map_below join_below
cases = refl

by_case : map_below 4 (λ k. neighbour_term (k + 1) 3 12) ≡ 3 ∷ 2 ∷ 1 ∷ 0 ∷ []
unfolding neighbour_term map_below join_below
by_case = refl

-- need 1 at degree 0 and 1, where two cases apply: the earlier one
two_apply : map_below 2 (term_case 1) ≡ 1 ∷ 2 ∷ []
unfolding term_case map_below join_below
two_apply = refl
