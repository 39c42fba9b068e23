-- Odd parts: what is left of a number without its twos, and greatest common divisors from those of the odd parts.
use Rattle.std.specs.Prelude.{◌≡◌, ℕ, ◌*◌, ◌%◌, ◌^◌, ◌≤◌}
use Rattle.std.specs.Int.Count.{count_trailing_zeros}

-- r is x without its twos, and odd
pub record OddPart (x r : ℕ) : Type 0 where
  pub odd : r % 2 ≡ 1
  pub whole : r * 2 ^ count_trailing_zeros 64 x ≡ x
  pub small : r ≤ x
