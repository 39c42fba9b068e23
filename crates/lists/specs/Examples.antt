-- The vocabulary, computed.
use Rattle.std.specs.Prelude.{true, false, List, [], ◌∷◌, ◌≡◌, refl, ℕ, ◌*◌, ltb}
use Rattle.lists.specs.Lists.{sum_by, count, has, count_in, without, at, put, WrittenAt}
use Rattle.lists.specs.Below.{all_below, any_below, sum_below, count_below, join_below, map_below, list_below, range}

abbrev sample : List ℕ
sample = 4 ∷ 7 ∷ 4 ∷ 9 ∷ []

-- 4 stands in the sample twice, 5 never; two of 7, 8, 9 stand in it, and three of its members in 4, 9
counts : (count 4 sample ∷ count 5 sample ∷ count_in sample (7 ∷ 8 ∷ 9 ∷ []) ∷ count_in (4 ∷ 9 ∷ []) sample ∷ []) ≡ 2 ∷ 0 ∷ 2 ∷ 3 ∷ []
counts = refl

members : (has 9 sample ∷ has 8 sample ∷ []) ≡ true ∷ false ∷ []
members = refl

rest : without (4 ∷ 8 ∷ []) sample ≡ 7 ∷ 9 ∷ []
rest = refl

-- the last entry, and the zero behind it
entries : (at sample 3 ∷ at sample 4 ∷ []) ≡ 9 ∷ 0 ∷ []
unfolding at
entries = refl

-- two entries written from place 1 on: the others stay, and 3 is the place behind them
written : WrittenAt (5 ∷ 6 ∷ []) 1 sample 3 (4 ∷ 5 ∷ 6 ∷ 9 ∷ [])
unfolding put
written = (refl, refl)

-- 0 + 1 + 4 + 9, by the bound and by the list; two of 0, 1, 2, 3 are below 2
squares : (sum_below 4 (λ i. i * i) ∷ sum_by (λ i. i * i) (range 4) ∷ count_below 4 (λ i. ltb i 2) ∷ []) ≡ 14 ∷ 14 ∷ 2 ∷ []
unfolding sum_below map_below join_below
squares = refl

-- of 0, 1, 2, 3 not all are below 3, but all are below 4; some are above 2, none above 3
tests : (all_below 4 (λ i. ltb i 3) ∷ all_below 4 (λ i. ltb i 4) ∷ any_below 4 (ltb 2) ∷ any_below 4 (ltb 3) ∷ []) ≡ false ∷ true ∷ true ∷ false ∷ []
unfolding all_below any_below
tests = refl

numbers : join_below 3 range ≡ 0 ∷ 0 ∷ 1 ∷ []
unfolding map_below join_below
numbers = refl

chosen : list_below 6 (ltb 2) ≡ 3 ∷ 4 ∷ 5 ∷ []
unfolding list_below join_below
chosen = refl
