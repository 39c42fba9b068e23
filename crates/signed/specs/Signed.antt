-- Signed numbers: the difference of two naturals, and sums and lists of signed numbers.
-- Definitions only.
use Rattle.std.specs.Prelude.{List, [], ◌∷◌, ◌++◌, ◌≡◌, ℕ, zero, suc, ◌≤◌, ◌<◌, ℤ, pos, ◌+ℤ◌, ◌-ℤ◌, length, get_or}

-- a less b
unfoldable pub difference : ℕ → ℕ → ℤ
difference a b = pos a -ℤ pos b

-- f 0 + f 1 + .. + f (n - 1)
unfoldable pub total_below : ℕ → (ℕ → ℤ) → ℤ
total_below zero f = pos 0
total_below (suc n) f = total_below n f +ℤ f n

-- f 0, f 1, .. up to f (n - 1)
unfoldable pub signed_below : ℕ → (ℕ → ℤ) → List ℤ
signed_below zero f = []
signed_below (suc n) f = signed_below n f ++ (f n ∷ [])

-- entry k of a list; past its end a list has zeros
unfoldable pub signed_at : List ℤ → ℕ → ℤ
signed_at l k = get_or l k (pos 0)

-- y is x with f k at each place k below n
pub record Fronted (n : ℕ) (f : ℕ → ℤ) (x y : List ℤ) : Type 0 where
  pub long : length y ≡ length x
  pub front : (k : ℕ) → k < n → signed_at y k ≡ f k
  pub rest : (k : ℕ) → n ≤ k → signed_at y k ≡ signed_at x k
