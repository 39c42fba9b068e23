-- Laws of signed numbers in decimal.
use Rattle.std.specs.Prelude.{Bool, true, false, int_lt, ◌∷◌, ◌≡◌, refl, ℕ, suc, ◌+◌, ◌^◌, ◌≤◌, ◌<◌, ℤ, pos, negsuc, nat_abs, length}
use Rattle.std.proofs.Common.{true≢false, sym, ap, ◌∙◌, arith, le-ltb}
use Rattle.text.specs.Text.{decimal, minus, signed_decimal}
use Rattle.text.proofs.DecimalLaws.{decimal-le}

below : (z : ℤ) → int_lt z (pos 0) ≡ true → signed_decimal z ≡ minus ∷ decimal (nat_abs z)
unfolding signed_decimal
below (pos n) h = absurd (true≢false (sym h ∙ le-ltb n 0 (omega arith)))
below (negsuc n) h = refl

above : (z : ℤ) → int_lt z (pos 0) ≡ false → signed_decimal z ≡ decimal (nat_abs z)
unfolding signed_decimal
above (pos n) h = refl
above (negsuc n) h = absurd (true≢false h)

-- a number below zero is its sign and its magnitude, another its magnitude alone; code has it as r, the answer whether it is below zero as b, and the
-- magnitude as m
module _ (z : ℤ) {r : ℤ} {b : Bool} {m : ℕ} (q : r ≡ z) (e : b ≡ int_lt r (pos 0)) (f : m ≡ nat_abs r) where
  pub signed_below : b ≡ true → signed_decimal z ≡ minus ∷ decimal m
  signed_below t = below z (ap (λ x. int_lt x (pos 0)) (sym q) ∙ sym e ∙ t) ∙ sym (ap (λ k. minus ∷ decimal k) (f ∙ ap nat_abs q))

  pub signed_above : b ≡ false → signed_decimal z ≡ decimal m
  signed_above t = above z (ap (λ x. int_lt x (pos 0)) (sym q) ∙ sym e ∙ t) ∙ sym (ap decimal (f ∙ ap nat_abs q))

-- numbers whose magnitude is below ten to the k have at most a sign and k digits
pub signed_decimal-le : (k : ℕ) (z : ℤ) → nat_abs z < 10 ^ suc k → length (signed_decimal z) ≤ suc k + 1
unfolding signed_decimal
signed_decimal-le k (pos n) h = omega (arith, decimal-le k n h)
signed_decimal-le k (negsuc n) h = omega (arith, decimal-le k (suc n) h)
