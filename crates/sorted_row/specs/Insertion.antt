-- A number inserted into a row of ascending numbers.
-- Definitions only.
use Rattle.std.specs.Prelude.{Bool, true, false, cond, List, [], ◌∷◌, ◌≡◌, ℕ, ◌≤◌, ◌<◌, ltb, eqb, length}
use Rattle.lists.specs.Lists.{has, put}
use Rattle.sorted_row.specs.declared.Inserted.{Inserted}
use Rattle.sorted_row.specs.declared.Inserted.TheVariants.{Added, Present, Full}

-- x among ascending numbers, at its place, and once
unfoldable pub insert : ℕ → List ℕ → List ℕ
insert x [] = x ∷ []
insert x (y ∷ l) = cond (ltb y x) (y ∷ insert x l) (cond (eqb y x) (y ∷ l) (x ∷ y ∷ l))

-- was the number added?
abbrev pub is_added : Inserted → Bool
is_added Added = true
is_added Present = false
is_added Full = false

-- what the slots of a row, whose first are taken by the numbers l, hold after x was inserted, by the answer that was given
abbrev pub RowAfter : Inserted → ℕ → List ℕ → List ℕ → List ℕ → Type 0
RowAfter Added x l row row' = (has x l ≡ false) × (length l < length row) × (row' ≡ put row 0 (insert x l))
RowAfter Present x l row row' = (has x l ≡ true) × (row' ≡ row)
RowAfter Full x l row row' = (has x l ≡ false) × (length row ≤ length l) × (row' ≡ row)
