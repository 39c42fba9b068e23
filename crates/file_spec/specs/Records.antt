-- What the records of a file say: which buses they join, and how many different pairs they name. r has the bytes of the records, and m is how many
-- they are.
-- Definitions only.
use Rattle.std.specs.Prelude.{Bool, not, ◌&&◌, ◌||◌, List, ℕ, ltb, eqb, length}
use Rattle.lists.specs.Below.{any_below, count_below, list_below}
use Rattle.table_spec.specs.Limits.{max_degree}
use Rattle.table_spec.specs.Holds.{needs_can_be_met}
use Rattle.file_spec.specs.FileBytes.{file_line_count, records, first_end, second_end}

-- record k joins i and j, either way round
unfoldable pub joins : List ℕ → ℕ → ℕ → ℕ → Bool
joins r i j k = (eqb (first_end r k) i && eqb (second_end r k) j) || (eqb (first_end r k) j && eqb (second_end r k) i)

-- one of the first m records joins i and j
unfoldable pub joined : ℕ → List ℕ → ℕ → ℕ → Bool
joined m r i j = any_below m (joins r i j)

-- the buses below n that one of the first m records joins to bus i, ascending
unfoldable pub neighbours : ℕ → ℕ → List ℕ → ℕ → List ℕ
neighbours n m r i = list_below n (joined m r i)

-- some bus below n has more different neighbours than it may have lines
unfoldable pub degree_too_high : ℕ → ℕ → List ℕ → Bool
degree_too_high n m r = any_below n (λ b. ltb max_degree (length (neighbours n m r b)))

-- some bus below n has a need of q that exceeds its degree, and is not one without lines that has need 1
abbrev pub need_above_degree : ℕ → List ℕ → ℕ → List ℕ → Bool
need_above_degree n q m r = not (needs_can_be_met n q (λ b. length (neighbours n m r b)))

-- record k names the same pair as an earlier one
unfoldable pub repeats : List ℕ → ℕ → Bool
repeats r k = joined k r (first_end r k) (second_end r k)

-- the different pairs of the first m records: how many of them do not name the pair of an earlier one
unfoldable pub pair_count : ℕ → List ℕ → ℕ
pair_count m r = count_below m (λ k. not (repeats r k))

-- the different pairs of a file
abbrev pub file_pair_count : List ℕ → ℕ
file_pair_count f = pair_count (file_line_count f) (records f)
