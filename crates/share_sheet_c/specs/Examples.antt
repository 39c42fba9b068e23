-- The status and the values that callers in C get of the scope's Path, computed.
use Rattle.std.specs.Prelude.{[], ◌∷◌, map, ◌≡◌, refl, ℕ}
use Rattle.lists.specs.Lists.{at}
use Rattle.lists.specs.Below.{all_below}
use Rattle.refusals.specs.Outcomes.{gives, refuses, values_or}
use Rattle.table_spec.specs.Layout.{row_at, needs, weights, starts, neighbour_numbers, row}
use Rattle.table_spec.specs.Holds.{within, complete, in_range, never_fall, short_rows, valid_entry, valid_row, valid_rows, sound_rows, mirrored, two_way, holds}
use Rattle.table_spec.specs.TableOutcomes.{degree_outcome, row_place_outcome}
use Rattle.table_spec.specs.Examples.{path}
use Rattle.share_sheet_c.specs.Status.{status_of, outcome_of_status}

-- the degree of bus 1, of a bus that is not there, and of a bus of no network: the number, and a lent place that held 99
degrees :
    (map (λ bus. status_of (degree_outcome (path 1) bus)) (1 ∷ 3 ∷ []) ≡ 0 ∷ 13 ∷ [])
    × (map (λ bus. values_or 99 (degree_outcome (path 1) bus)) (1 ∷ 3 ∷ []) ≡ 2 ∷ 99 ∷ [])
    × (status_of (degree_outcome (path 0) 1) ≡ 11)
unfolding path holds two_way complete within in_range sound_rows never_fall short_rows valid_rows valid_row valid_entry mirrored row_at needs weights starts neighbour_numbers row at all_below
degrees = (refl, refl, refl)

-- the row of bus 1 is two entries from entry 12 on; refused, both places keep what they held
rows : map (λ bus. values_or (98, 99) (row_place_outcome (path 1) bus)) (1 ∷ 3 ∷ []) ≡ (12, 2) ∷ (98, 99) ∷ []
unfolding path holds two_way complete within in_range sound_rows never_fall short_rows valid_rows valid_row valid_entry mirrored row_at needs weights starts neighbour_numbers row at all_below
rows = refl

-- read back
said : (outcome_of_status {A = ℕ} 0 7 ≡ gives 7) × (outcome_of_status {A = ℕ} 13 7 ≡ refuses 13)
said = (refl, refl)
