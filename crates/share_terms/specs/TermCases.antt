-- The cases by which a neighbour's term is found.
-- Definitions only.
use Rattle.std.specs.Prelude.{cond, ◌≡◌, ℕ, ◌<◌, ltb, eqb}

-- the case of need k and degree d, the earlier where two apply: 1 is need above degree, 2 need equal to degree, 3 need 1, and 4 need between them
unfoldable pub term_case : ℕ → ℕ → ℕ
term_case k d = cond (ltb d k) 1 (cond (eqb k d) 2 (cond (eqb k 1) 3 4))

-- what case c says of need k and degree d; what is in none of the first three is between them
pub record InCase (k d c : ℕ) : Type 0 where
  pub above_degree : c ≡ 1 → d < k
  pub equal_to_degree : c ≡ 2 → k ≡ d
  pub one : c ≡ 3 → (k ≡ 1) × (k < d)
  pub between : (c ≡ 1 → ⊥) → (c ≡ 2 → ⊥) → (c ≡ 3 → ⊥) → (1 < k) × (k < d)
