-- What the steps of an insertion promise one another: where x belongs, and the numbers with x put there.
-- Definitions only.
use Rattle.std.specs.Prelude.{List, ◌∷◌, ◌++◌, ℕ, ◌≤◌, ◌<◌, length, take, drop}
use Rattle.lists.specs.Lists.{at}

-- the numbers before place p are below x, and none from p on is
pub record Place (x : ℕ) (l : List ℕ) (p : ℕ) : Type 0 where
  pub within : p ≤ length l
  pub low : (k : ℕ) → k < p → at l k < x
  pub high : (k : ℕ) → p ≤ k → k < length l → x ≤ at l k

-- x between the numbers before place p and those from p on
unfoldable pub insert_at : List ℕ → ℕ → ℕ → List ℕ
insert_at l p x = take p l ++ (x ∷ drop p l)
