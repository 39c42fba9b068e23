-- The binary rule for the greatest common divisor: an iteration of the loop keeps it, and the twos give it back.
use mathlib.Core.Path.{◌≡◌, sym, ap, ap₂, ◌∙◌}
use Prim.Native.Nat.{ℕ, ◌+◌, ◌-◌, ◌*◌, ◌%◌, ◌^◌, ◌≤◌, ◌<◌, min}
use native.Mathlib.Nat.{mod-eq_of_lt, le_of_dvd}
use native.Mathlib.Decide.{dec_le}
use native.Mathlib.Omega.{arith}
use lib.Count.{count_trailing_zeros}
use Rattle.fraction.specs.Divisors.{IsGcd, gcd_of}
use Rattle.fraction.proofs.GcdLaws.{gcd_is, gcd_self, gcd_comm, gcd_sub}
use Rattle.fraction.specs.Odd.{OddPart}
use Rattle.fraction.proofs.Odd.{gcd_strip, gcd_twos}

-- the loop's invariant: both numbers are odd, and g is their greatest common divisor
pub record Odds (g a b : ℕ) : Type 0 where
  pub left : a % 2 ≡ 1
  pub right : b % 2 ≡ 1
  pub kept : gcd_of a b ≡ g

step_le : (a b : ℕ) {g r : ℕ} → Odds g a b → a ≤ b → OddPart (b - a) r → Odds g a r
step_le a b {r = r} i h p = record {
  left = i.left;
  right = p.odd;
  kept =
      gcd_comm a r ∙ sym (gcd_strip r (count_trailing_zeros 64 (b - a)) a i.left) ∙ ap (λ n. gcd_of n a) p.whole ∙ gcd_sub a b h
      ∙ gcd_comm b a ∙ i.kept;
}

-- an iteration: the smaller stays, and the gap without its twos takes the larger's place
pub step : {g a b d m r : ℕ} → Odds g a b → d ≡ (a - b) + (b - a) → OddPart d r → m ≡ min a b → Odds g m r
step {g} {a} {b} {d} {m} {r} i e p f = go (dec_le a b)
  where
    flip : Odds g b a
    flip = record { left = i.right; right = i.left; kept = gcd_comm b a ∙ i.kept }

    go : Dec (a ≤ b) → Odds g m r
    go (yes h) =
        let low : m ≡ a = omega arith in
        let gap : d ≡ b - a = omega arith in
        rw low (step_le a b i h (rw gap at p))
    go (no h) =
        let low : m ≡ b = omega arith in
        let gap : d ≡ a - b = omega arith in
        rw low (step_le b a flip (omega arith) (rw gap at p))

-- the odd parts agree: with the twos that both have it is the greatest common divisor, and it fits
pub agreed : {x y a₀ b₀ a b t : ℕ} → 0 < x → x < 2 ^ 64 → OddPart x a₀ → OddPart y b₀ → Odds (gcd_of a₀ b₀) a b → a ≡ b
    → t ≡ min (count_trailing_zeros 64 x) (count_trailing_zeros 64 y) → IsGcd x y (a * 2 ^ t % 2 ^ 64)
agreed {x} {y} {a₀} {b₀} {a} {b} {t} h f p q i e m = rw (whole, mod-eq_of_lt small) (gcd_is x y)
  where
    odd : a ≡ gcd_of a₀ b₀
    odd = sym (gcd_self a) ∙ ap (gcd_of a) e ∙ i.kept

    whole : a * 2 ^ t ≡ gcd_of x y
    whole =
        ap₂ (λ n k. n * 2 ^ k) odd m ∙ sym (gcd_twos a₀ b₀ (count_trailing_zeros 64 x) (count_trailing_zeros 64 y) p.odd q.odd)
        ∙ ap₂ gcd_of p.whole q.whole

    small : gcd_of x y < 2 ^ 64
    small = let d = le_of_dvd h (gcd_is x y).left in omega arith
