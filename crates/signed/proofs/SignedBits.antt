-- Signed numbers as code has them: a local holds bits, `of_z`, and reads them back, `to_z`; what fits is read back as it was.
use Rattle.std.specs.Prelude.{◌≡◌, ℕ, ◌^◌, ◌≤◌, ◌<◌, ℤ, pos, negsuc, nat_abs}
use Rattle.std.proofs.Common.{◌∙◌, arith, SFits, to_z, of_z}
use Rattle.std.proofs.Math.Path.{ap₂}
use Rattle.std.proofs.Math.IntN.{◌-ℤ◌}
use Rattle.std.specs.Int.Signed.{mag}
use mir.Syntax.{w64}
use Rattle.std.proofs.lemmas.Int.{to_z_pos, to_z-of_z}
use Rattle.signed.specs.Signed.{difference}
use Rattle.signed.proofs.Differences.{difference_fits}

-- ---- a difference of two unsigned numbers

module _ (a b : ℕ) (p : a < 2 ^ 63) (q : b < 2 ^ 63) where
  less_is : to_z w64 a -ℤ to_z w64 b ≡ difference a b
  unfolding difference
  less_is = ap₂ ◌-ℤ◌ (to_z_pos w64 a p) (to_z_pos w64 b q)

  pub less_fits : SFits w64 (to_z w64 a -ℤ to_z w64 b)
  less_fits = rw less_is (difference_fits a b p q)

  pub less_read : to_z w64 (of_z w64 (to_z w64 a -ℤ to_z w64 b)) ≡ difference a b
  less_read = to_z-of_z w64 _ less_fits ∙ less_is

  -- one that a call gave
  pub read_back : {z : ℤ} → z ≡ difference a b → to_z w64 (of_z w64 z) ≡ difference a b
  read_back e = rw e (to_z-of_z w64 (difference a b) (difference_fits a b p q))

-- what a test of magnitudes asks is no more than the magnitude
pub mag_le : (x : ℤ) → mag x ≤ nat_abs x
mag_le (pos n) = omega arith
mag_le (negsuc n) = omega arith
