-- What the terms of a bus are multiples of.
-- Definitions only.
use Rattle.std.specs.Prelude.{ℕ, ◌+◌, ◌*◌, ◌/◌, ◌≤◌, ◌<◌}
use Rattle.std.specs.Int.{◌∣◌}
use Rattle.share_spec.specs.TableNetwork.{max_denominator}

-- L over d(d+1), the unit of a bus of degree d
unfoldable pub unit : ℕ → ℕ → ℕ
unit L d = L / (d * (d + 1))

-- what is asked of L at a bus of degree d: d(d+1) divides it, unless d is 0, and it is not above the largest
pub record Divided (d L : ℕ) : Type 0 where
  pub divided : 0 < d → d * (d + 1) ∣ L
  pub bounded : L ≤ max_denominator
