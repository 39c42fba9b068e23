-- Rows that grow at their ends, computed.
use Rattle.std.specs.Prelude.{List, [], ◌∷◌, ◌++◌, ◌≡◌, refl, ℕ, zero, suc, ◌+◌, ◌<◌, length, replicate}
use Rattle.std.proofs.Common.{arith}
use Rattle.lists.specs.Lists.{at, Tabled}
use Rattle.lists.specs.Below.{sum_below, join_below, map_below}
use Rattle.row_builder.specs.GrowingRows.{GrowingRows}

abbrev counts : List ℕ
counts = 2 ∷ 1 ∷ 3 ∷ []

-- where three rows of 2, 1 and 3 numbers start, and where the last ends
starts : map_below 4 (λ i. sum_below i (at counts)) ≡ 0 ∷ 2 ∷ 3 ∷ 6 ∷ []
unfolding map_below join_below sum_below at
starts = refl

-- row 0 has one of its two numbers, row 1 its one, row 2 none; what stands in the other places does not matter
abbrev rows : ℕ → List ℕ
rows zero = 5 ∷ []
rows (suc zero) = 7 ∷ []
rows (suc (suc i)) = []

abbrev next : List ℕ
next = (1 ∷ 3 ∷ 3 ∷ []) ++ replicate 509 9

abbrev all : List ℕ
all = 5 ∷ 9 ∷ 7 ∷ 9 ∷ 9 ∷ 9 ∷ []

placed : Tabled 3 (λ i. sum_below i (at counts) + length (rows i)) next
unfolding sum_below at
placed zero l = refl
placed (suc zero) l = refl
placed (suc (suc zero)) l = refl
placed (suc (suc (suc i))) l = absurd (omega arith)

each : (i j : ℕ) → i < 3 → j < length (rows i) → at all (sum_below i (at counts) + j) ≡ at (rows i) j
unfolding sum_below at
each zero zero l k = refl
each zero (suc j) l k = absurd (omega arith)
each (suc zero) zero l k = refl
each (suc zero) (suc j) l k = absurd (omega arith)
each (suc (suc i)) j l k = absurd (omega arith)

growing : GrowingRows 3 (at counts) rows next all
unfolding sum_below at
growing = record { size = refl; wide = refl; placed = placed; each = each }
