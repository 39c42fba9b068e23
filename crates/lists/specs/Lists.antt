-- Lists of numbers: sums and counts over their members, entries by place, and lists written into a slice.
-- Definitions only.
use Rattle.std.specs.Prelude.{Bool, cond, List, [], ◌∷◌, ◌++◌, ◌≡◌, ℕ, ◌+◌, ◌-◌, ◌≤◌, ◌<◌, eqb, ltb, length, get_or, take, drop}

-- 1 where a test passes, 0 where it fails
abbrev pub indicator : Bool → ℕ
indicator b = cond b 1 0

module _ {ℓ} {A : Type ℓ} where
  -- the sum of f x over the members x of a list
  abbrev pub sum_by : (A → ℕ) → List A → ℕ
  sum_by f [] = 0
  sum_by f (x ∷ l) = f x + sum_by f l

  -- how many members of a list pass a test
  abbrev pub count_by : (A → Bool) → List A → ℕ
  count_by p l = sum_by (λ x. indicator (p x)) l

-- how often x stands in a list
abbrev pub count : ℕ → List ℕ → ℕ
count x l = count_by (eqb x) l

-- x stands in a list
infix 45 ◌∈◌
abbrev pub ◌∈◌ : ℕ → List ℕ → Type 0
x ∈ l = 0 < count x l

-- does x stand in a list?
abbrev pub has : ℕ → List ℕ → Bool
has x l = ltb 0 (count x l)

-- no number stands in a list twice
abbrev pub Once : List ℕ → Type 0
Once l = (x : ℕ) → count x l ≤ 1

-- how many members of l stand in s
abbrev pub count_in : List ℕ → List ℕ → ℕ
count_in s l = count_by (λ x. has x s) l

-- the members of a list that do not stand in s
abbrev pub without : List ℕ → List ℕ → List ℕ
without s [] = []
without s (x ∷ l) = cond (has x s) (without s l) (x ∷ without s l)

-- entry k of a list; past its end a list has zeros
unfoldable pub at : List ℕ → ℕ → ℕ
at l k = get_or l k 0

-- the entries from place a up to, not including, place e
abbrev pub part : ℕ → ℕ → List ℕ → List ℕ
part a e l = take (e - a) (drop a l)

-- each entry of a list is above those before it
abbrev pub Ascending : List ℕ → Type 0
Ascending l = (j k : ℕ) → j < k → k < length l → at l j < at l k

-- the first n entries of l are f 0, f 1, .. up to f (n - 1)
abbrev pub Tabled : ℕ → (ℕ → ℕ) → List ℕ → Type 0
Tabled n f l = (i : ℕ) → i < n → at l i ≡ f i

-- t with vs written over its entries from place i on
unfoldable pub put : List ℕ → ℕ → List ℕ → List ℕ
put t i vs = take i t ++ (vs ++ drop (i + length vs) t)

-- vs was written over the entries of t from place i on, which left u, and r is the place behind it
abbrev pub WrittenAt : List ℕ → ℕ → List ℕ → ℕ → List ℕ → Type 0
WrittenAt vs i t r u = (r ≡ i + length vs) × (u ≡ put t i vs)
