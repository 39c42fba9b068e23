-- Tests, sums, counts, largest values and lists over the numbers 0, 1, .. below a bound. Recursion goes from the end: one step is one iteration of a counting loop.
-- Definitions only.
use Rattle.std.specs.Prelude.{Bool, true, false, cond, ◌&&◌, ◌||◌, List, [], ◌∷◌, ◌++◌, ℕ, zero, suc, ◌+◌, max}
use Rattle.lists.specs.Lists.{indicator}

-- does every number below n pass?
unfoldable pub all_below : ℕ → (ℕ → Bool) → Bool
all_below zero p = true
all_below (suc n) p = all_below n p && p n

-- does some number below n pass?
unfoldable pub any_below : ℕ → (ℕ → Bool) → Bool
any_below zero p = false
any_below (suc n) p = any_below n p || p n

-- f 0 + f 1 + .. + f (n - 1)
unfoldable pub sum_below : ℕ → (ℕ → ℕ) → ℕ
sum_below zero f = 0
sum_below (suc n) f = sum_below n f + f n

-- how many numbers below n pass
abbrev pub count_below : ℕ → (ℕ → Bool) → ℕ
count_below n p = sum_below n (λ i. indicator (p i))

-- the largest of f 0, f 1, .. up to f (n - 1); 0 where there is none
unfoldable pub largest_below : ℕ → (ℕ → ℕ) → ℕ
largest_below zero f = 0
largest_below (suc n) f = max (largest_below n f) (f n)

-- the lists f 0, f 1, .. up to f (n - 1), joined
unfoldable pub join_below : ℕ → (ℕ → List ℕ) → List ℕ
join_below zero f = []
join_below (suc n) f = join_below n f ++ f n

-- f 0, f 1, .. up to f (n - 1)
unfoldable pub map_below : ℕ → (ℕ → ℕ) → List ℕ
map_below n f = join_below n (λ i. f i ∷ [])

-- the numbers below n that pass, ascending
unfoldable pub list_below : ℕ → (ℕ → Bool) → List ℕ
list_below n p = join_below n (λ i. cond (p i) (i ∷ []) [])

-- 0, 1, .. up to n - 1
abbrev pub range : ℕ → List ℕ
range n = map_below n (λ i. i)
