-- Files of the scope's Path and of other networks, computed.
use Rattle.std.specs.Prelude.{List, [], ◌∷◌, ◌++◌, map, ◌≡◌, refl, ℕ, replicate}
use Rattle.lists.specs.Lists.{at, put}
use Rattle.lists.specs.Below.{all_below, sum_below, join_below}
use Rattle.refusals.specs.Outcomes.{gives, refuses}
use Rattle.table_spec.specs.Layout.{row_at, needs, weights, starts, neighbour_numbers, row, lines}
use Rattle.table_spec.specs.Holds.{within, complete, in_range, never_fall, short_rows, valid_entry, valid_row, valid_rows, sound_rows, mirrored, two_way, holds}
use Rattle.table_spec.specs.Examples.{path, weighted}
use Rattle.write_spec.specs.FileOf.{word, words, record_of, pair_records, all_ones, weight_section, file_of}
use Rattle.write_spec.specs.WriteOutcome.{write_outcome, bytes_after}

-- the scope's Path: the bytes that Read is given in its bench cases
path-file : file_of (path 1) ≡ 3 ∷ 0 ∷ 1 ∷ 1 ∷ 1 ∷ 2 ∷ 0 ∷ 0 ∷ 0 ∷ 1 ∷ 0 ∷ 1 ∷ 0 ∷ 2 ∷ 0 ∷ []
unfolding path file_of weight_section all_ones words pair_records record_of word lines needs weights row row_at starts neighbour_numbers at all_below join_below sum_below
path-file = refl

-- with weights 5, 1,000 and 1 it has them behind its records
weighted-file : file_of (weighted 5 1000 1) ≡ file_of (path 1) ++ (3 ∷ 0 ∷ 5 ∷ 0 ∷ 232 ∷ 3 ∷ 1 ∷ 0 ∷ [])
unfolding path weighted file_of weight_section all_ones words pair_records record_of word lines needs weights row row_at starts neighbour_numbers at all_below join_below sum_below
weighted-file = refl

-- a triangle and a bus alone, of weight 2, with entries beyond the table: each line once, by first bus, then by second; every weight, though three are 1
triangle : List ℕ
triangle = 4 ∷ 1 ∷ 2 ∷ 2 ∷ 1 ∷ 1 ∷ 1 ∷ 1 ∷ 2 ∷ 0 ∷ 2 ∷ 4 ∷ 6 ∷ 6 ∷ 1 ∷ 2 ∷ 0 ∷ 2 ∷ 0 ∷ 1 ∷ 9 ∷ 9 ∷ []

triangle-file : file_of triangle ≡ 4 ∷ 0 ∷ 1 ∷ 2 ∷ 2 ∷ 1 ∷ 3 ∷ 0 ∷ 0 ∷ 0 ∷ 1 ∷ 0 ∷ 0 ∷ 0 ∷ 2 ∷ 0 ∷ 1 ∷ 0 ∷ 2 ∷ 0 ∷ 4 ∷ 0 ∷ 1 ∷ 0 ∷ 1 ∷ 0 ∷ 1 ∷ 0 ∷ 2 ∷ 0 ∷ []
unfolding triangle file_of weight_section all_ones words pair_records record_of word lines needs weights row row_at starts neighbour_numbers at all_below join_below sum_below
triangle-file = refl

-- bus numbers above 255
high_buses : record_of 44 300 ≡ 44 ∷ 0 ∷ 44 ∷ 1 ∷ []
unfolding record_of word
high_buses = refl

-- Path into 14 bytes, into 15 and into 17; with other weights, into 22 and into 23; a slice that holds no network, though no byte is lent
answers :
    (map (write_outcome (path 1)) (14 ∷ 15 ∷ 17 ∷ []) ≡ refuses 16 ∷ gives 15 ∷ gives 15 ∷ [])
    × (map (write_outcome (weighted 5 1000 1)) (22 ∷ 23 ∷ []) ≡ refuses 16 ∷ gives 23 ∷ [])
    × (write_outcome (path 0) 0 ≡ refuses 11)
unfolding path weighted file_of weight_section all_ones words pair_records record_of word lines holds two_way complete within in_range sound_rows never_fall short_rows valid_rows valid_row valid_entry mirrored row_at needs weights starts neighbour_numbers row at all_below join_below sum_below
answers = (refl, refl, refl)

-- what lent bytes hold afterwards: the file and the old rest; too few, what they held
left : map (λ k. bytes_after (path 1) (replicate k 7)) (14 ∷ 17 ∷ []) ≡ replicate 14 7 ∷ (file_of (path 1) ++ (7 ∷ 7 ∷ [])) ∷ []
unfolding path file_of weight_section all_ones words pair_records record_of word lines holds two_way complete within in_range sound_rows never_fall short_rows valid_rows valid_row valid_entry mirrored row_at needs weights starts neighbour_numbers row at all_below join_below sum_below put
left = refl
