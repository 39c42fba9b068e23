-- Euclid's rule gives the greatest common divisor, there is no other, and its laws.
use Rattle.std.specs.Prelude.{◌≡◌, ◌⊎◌, ℕ, zero, suc, ◌+◌, ◌-◌, ◌*◌, ◌/◌, ◌%◌, ◌≤◌, ◌<◌}
use Rattle.std.proofs.Common.{sym, ap, ◌∙◌, inl, inr, zero-lt-suc, eq-zero-or-pos, mod-lt, mul-zero, one-mul, arith}
use Rattle.std.specs.Int.{◌∣◌}
use Rattle.std.proofs.Math.Nat.{div-mul_cancel, dvd_refl, dvd-zero, dvd_antisymm, dvd-mul_left, dvd-mul_right, dvd-add, dvd-sub, dvd-mod_iff, mul-dvd-mul_right, dvd_of_mul-dvd-mul_right}
use Rattle.fraction.specs.Divisors.{IsGcd, euclid, gcd_of}

-- ---- `gcd_of` is the greatest common divisor, and there is no other

pub gcd_zero : (a : ℕ) → IsGcd a 0 a
gcd_zero a = record { left = dvd_refl a; right = dvd-zero a; greatest = λ d p q. p }

pub gcd_flip : {a b g : ℕ} → IsGcd a b g → IsGcd b a g
gcd_flip i = record { left = i.right; right = i.left; greatest = λ d p q. i.greatest d q p }

-- a step of Euclid's rule
pub gcd_step : {a b g : ℕ} → IsGcd b (a % b) g → IsGcd a b g
gcd_step {a} {b} {g} i = record {
  left = (dvd-mod_iff g i.left).0 i.right;
  right = i.left;
  greatest = λ d p q. i.greatest d q ((dvd-mod_iff d q).1 p);
}

euclid_gcd : (n a b : ℕ) → b ≤ n → IsGcd a b (euclid n a b)
unfolding euclid
euclid_gcd zero a zero h = gcd_zero a
euclid_gcd zero a (suc b) h = absurd (omega arith)
euclid_gcd (suc n) a zero h = gcd_zero a
euclid_gcd (suc n) a (suc b) h = gcd_step (euclid_gcd n (suc b) (a % suc b) (omega (arith, mod-lt a (zero-lt-suc b))))

pub gcd_is : (a b : ℕ) → IsGcd a b (gcd_of a b)
unfolding gcd_of
gcd_is a b = euclid_gcd b a b (omega arith)

pub gcd_unique : {a b g h : ℕ} → IsGcd a b g → IsGcd a b h → g ≡ h
gcd_unique {g = g} {h = h} i j = dvd_antisymm (j.greatest g i.left i.right) (i.greatest h j.left j.right)

pub is_gcd_of : {a b g : ℕ} → IsGcd a b g → g ≡ gcd_of a b
is_gcd_of {a} {b} i = gcd_unique i (gcd_is a b)

-- two pairs with the same common divisors have the same greatest one
pub gcd_same : (a b c e : ℕ) → ((d : ℕ) → d ∣ a → d ∣ b → (d ∣ c) × (d ∣ e)) → ((d : ℕ) → d ∣ c → d ∣ e → (d ∣ a) × (d ∣ b)) → gcd_of a b ≡ gcd_of c e
gcd_same a b c e f g =
    let i = gcd_is a b in
    let forth = f (gcd_of a b) i.left i.right in
    is_gcd_of (record {
      left = forth.0;
      right = forth.1;
      greatest = λ d p q. i.greatest d (g d p q).0 (g d p q).1;
    })

-- ---- laws

pub gcd_comm : (a b : ℕ) → gcd_of a b ≡ gcd_of b a
gcd_comm a b = gcd_same a b b a (λ d p q. (q, p)) (λ d p q. (q, p))

pub gcd_self : (a : ℕ) → gcd_of a a ≡ a
gcd_self a = sym (is_gcd_of (record { left = dvd_refl a; right = dvd_refl a; greatest = λ d p q. p }))

pub gcd_sub : (a b : ℕ) → a ≤ b → gcd_of (b - a) a ≡ gcd_of b a
gcd_sub a b h =
    let back : b - a + a ≡ b = omega arith in
    gcd_same (b - a) a b a (λ d p q. (rw back at (dvd-add d p q), q)) (λ d p q. (dvd-sub d p q, q))

-- a common factor comes out
pub gcd_scale : (a b k : ℕ) → gcd_of (a * k) (b * k) ≡ gcd_of a b * k
gcd_scale a b k = go (eq-zero-or-pos k)
  where
    both : IsGcd (a * k) (b * k) (gcd_of (a * k) (b * k))
    both = gcd_is (a * k) (b * k)

    part : ℕ
    part = gcd_of (a * k) (b * k) / k

    whole : part * k ≡ gcd_of (a * k) (b * k)
    whole = div-mul_cancel k (both.greatest k (dvd-mul_left k a) (dvd-mul_left k b))

    fits : 0 < k → part ∣ gcd_of a b
    fits h =
        (gcd_is a b).greatest part (dvd_of_mul-dvd-mul_right part h (rw (← whole) at both.left))
        (dvd_of_mul-dvd-mul_right part h (rw (← whole) at both.right))

    go : (k ≡ 0) ⊎ (0 < k) → gcd_of (a * k) (b * k) ≡ gcd_of a b * k
    go (inl e) = rw (e, mul-zero a, mul-zero b, mul-zero (gcd_of a b)) (gcd_self 0)
    go (inr h) =
        dvd_antisymm (rw (← whole) (mul-dvd-mul_right part (fits h) k))
        (both.greatest (gcd_of a b * k) (mul-dvd-mul_right (gcd_of a b) (gcd_is a b).left k) (mul-dvd-mul_right (gcd_of a b) (gcd_is a b).right k))

-- a number that divides a product and has no common divisor with one factor divides the other
pub gauss : (d m n : ℕ) → gcd_of d m ≡ 1 → d ∣ m * n → d ∣ n
gauss d m n e h =
    let scaled : gcd_of (d * n) (m * n) ≡ n = gcd_scale d m n ∙ ap (λ x. x * n) e ∙ one-mul n in
    rw scaled at ((gcd_is (d * n) (m * n)).greatest d (dvd-mul_right d n) h)
