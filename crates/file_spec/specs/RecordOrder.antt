-- The order that records have: each names its lower bus first, and they ascend by first bus, then by second; equal records may stand together.
-- Refusal 15 is for any others.
-- Definitions only.
use Rattle.std.specs.Prelude.{Bool, ◌&&◌, ◌||◌, List, ℕ, ◌-◌, ltb, eqb}
use Rattle.lists.specs.Below.{any_below}
use Rattle.file_spec.specs.FileBytes.{first_end, second_end}

-- record k names its higher bus first
unfoldable pub turned : List ℕ → ℕ → Bool
turned r k = ltb (second_end r k) (first_end r k)

-- the pair a, b is below the pair c, d: by first bus, then by second
unfoldable pub pair_below : ℕ → ℕ → ℕ → ℕ → Bool
pair_below a b c d = ltb a c || (eqb a c && ltb b d)

-- record k is below the one before it; the first has none before it
unfoldable pub falls : List ℕ → ℕ → Bool
falls r k = ltb 0 k && pair_below (first_end r k) (second_end r k) (first_end r (k - 1)) (second_end r (k - 1))

-- one of the first m records is turned, or falls
unfoldable pub out_of_order : ℕ → List ℕ → Bool
out_of_order m r = any_below m (λ k. turned r k || falls r k)
