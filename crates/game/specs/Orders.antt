-- Orders of fitting: every list of the players in which each of them stands once.
-- Definitions only.
use Rattle.std.specs.Prelude.{Bool, true, false, cond, ◌&&◌, ◌≡◌, ℕ, zero, suc, ◌*◌, ◌<◌, eqb, ltb, length}
use mathlib.Core.List.{List, [], ◌∷◌, ◌++◌, map, flat_map}
use Rattle.lists.specs.Lists.{indicator, count_by, count}

-- the lists made by putting x into l, one for each place
abbrev pub insertions : ℕ → List ℕ → List (List ℕ)
insertions x [] = (x ∷ []) ∷ []
insertions x (y ∷ l) = (x ∷ y ∷ l) ∷ map (λ r. y ∷ r) (insertions x l)

-- all orders of a list: its first member is put at each place of each order of the others
abbrev pub orders : List ℕ → List (List ℕ)
orders [] = [] ∷ []
orders (x ∷ l) = flat_map (insertions x) (orders l)

abbrev pub factorial : ℕ → ℕ
factorial zero = 1
factorial (suc n) = suc n * factorial n

-- what stands before v in an order
abbrev pub before : ℕ → List ℕ → List ℕ
before v [] = []
before v (x ∷ l) = cond (eqb v x) [] (x ∷ before v l)

-- f goes by the other players only: putting r in, at any place, changes nothing
abbrev pub Ignores : ℕ → (List ℕ → ℕ) → Type 0
Ignores r f = (p s : List ℕ) → f (p ++ r ∷ s) ≡ f (p ++ s)

-- l is an order of n buses (the scope's term): each bus from 0 to n - 1 stands in it once, and nothing else does
abbrev pub IsOrder : ℕ → List ℕ → Type 0
IsOrder n l = (i : ℕ) → count i l ≡ indicator (ltb i n)

-- are two lists the same?
abbrev pub same : List ℕ → List ℕ → Bool
same [] [] = true
same [] (y ∷ m) = false
same (x ∷ l) [] = false
same (x ∷ l) (y ∷ m) = eqb x y && same l m

-- how often a list stands among lists
abbrev pub times : List ℕ → List (List ℕ) → ℕ
times l ls = count_by (same l) ls

-- ls holds each of the n! orders of n buses once, and nothing else
pub record EveryOrderOnce (n : ℕ) (ls : List (List ℕ)) : Type 0 where
  pub size : length ls ≡ factorial n
  pub once : (l : List ℕ) → IsOrder n l → times l ls ≡ 1
  pub only : (l : List ℕ) → 0 < times l ls → IsOrder n l
