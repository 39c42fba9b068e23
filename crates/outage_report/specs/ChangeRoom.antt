-- What work functions ask for: changes that are small, and room for their lines. Definitions only.
use Rattle.std.specs.Prelude.{List, ℕ, ◌*◌, ◌≤◌, ◌<◌, ℤ, nat_abs, length}
use Rattle.signed.specs.Signed.{signed_at}
use Rattle.table_spec.specs.Limits.{max_buses, max_weight}
use Rattle.share_spec.specs.TableNetwork.{max_denominator}

-- at most 512 changes, none above 2 L times the weight, up or down, for the largest L and the highest weight
pub record Small (changes : List ℤ) : Type 0 where
  pub most : length changes ≤ max_buses
  pub each : (v : ℕ) → v < length changes → nat_abs (signed_at changes v) ≤ 2 * max_weight * max_denominator

-- bytes that are enough for the line of every such change: none is longer than `511 -10708457760000`
abbrev pub longest_change : ℕ
longest_change = 20

-- and for a line of each bus
abbrev pub longest_changes : ℕ
longest_changes = longest_change * max_buses
