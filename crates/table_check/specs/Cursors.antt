-- What the helpers of the mirror test promise one another: rows are gone through in order, and each row has a cursor at the first entry that
-- no row before has asked for. Nothing outside the mirror test rests on these.
-- Definitions only.
use Rattle.std.specs.Prelude.{Bool, true, ◌&&◌, List, ◌≡◌, ℕ, ◌+◌, ltb, eqb, length}
use Rattle.lists.specs.Lists.{count, at}
use Rattle.lists.specs.Below.{all_below}
use Rattle.table_spec.specs.Layout.{row_at}

-- row r has an entry c, and it is i
unfoldable pub is_at : List ℕ → ℕ → ℕ → Bool
is_at r c i = ltb c (length r) && eqb (at r c) i

-- b: of each row that r names, the entry at the cursor is i; if so, each of those cursors has moved on by one
pub record Matched (s l : List ℕ) (i : ℕ) (r before : List ℕ) (b : Bool) (after : List ℕ) : Type 0 where
  pub long : length after ≡ length before
  pub answer : b ≡ all_below (length r) (λ k. is_at (row_at s l (at r k)) (at before (at r k)) i)
  pub moved : b ≡ true → (j : ℕ) → at after j ≡ at before j + count j r
