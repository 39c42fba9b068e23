-- Odd parts: what is left of a number without its twos, and greatest common divisors from those of the odd parts.
use Rattle.std.specs.Prelude.{◌≡◌, refl, ◌⊎◌, ℕ, zero, suc, ◌+◌, ◌-◌, ◌*◌, ◌/◌, ◌%◌, ◌^◌, ◌≤◌, ◌<◌, min}
use Rattle.std.proofs.Common.{sym, ap, ◌∙◌, inl, inr, zero-lt-suc, eq-zero-or-pos, mul_comm, mul_assoc, mul-one, pow-suc, div-one, div-le_self, arith, pow-add}
use Rattle.std.specs.Int.{◌∣◌}
use Rattle.std.proofs.Math.Nat.{pow-succ', div-div-eq-div-mul, dvd_trans, dvd_of_mod-eq-zero, mod-eq-zero_of_dvd, dvd-mul_right_of_dvd}
use Rattle.std.proofs.Math.Decide.{dec_le}
use Rattle.std.specs.Int.Count.{count_trailing_zeros, under}
use Rattle.fraction.specs.Divisors.{euclid, gcd_of}
use Rattle.fraction.proofs.GcdLaws.{gcd_same, gcd_comm, gcd_scale, gauss}
use Rattle.fraction.specs.Odd.{OddPart}

-- of a number below 2 ^ k that is not 0, t twos are all
record Twos (k x t : ℕ) : Type 0 where
  odd : x / 2 ^ t % 2 ≡ 1
  whole : x / 2 ^ t * 2 ^ t ≡ x
  below : t < k

twos : (k x : ℕ) → 0 < x → x < 2 ^ k → Twos k x (count_trailing_zeros k x)
unfolding count_trailing_zeros
twos zero x p h = absurd (omega arith)
twos (suc k) x p h = go (x % 2) refl (λ q. twos k (x / 2) q (omega (arith, pow-suc 2 k)))
  where
    t : ℕ
    t = count_trailing_zeros k (x / 2)

    half : x / 2 ^ suc t ≡ x / 2 / 2 ^ t
    half = ap (λ n. x / n) (pow-succ' 2 t) ∙ sym (div-div-eq-div-mul x 2 (2 ^ t))

    go : (r : ℕ) → x % 2 ≡ r → (0 < x / 2 → Twos k (x / 2) t) → Twos (suc k) x (under r t)
    go zero e rest =
        let i = rest (omega arith) in
        record {
          odd = ap (λ n. n % 2) half ∙ i.odd;
          whole = ap (λ n. n * 2 ^ suc t) half ∙ omega (arith, ap (λ n. x / 2 / 2 ^ t * n) (pow-suc 2 t), i.whole);
          below = omega (arith, i.below);
        }
    go (suc r) e rest = record {
      odd = ap (λ n. n % 2) (div-one x) ∙ omega arith;
      whole = mul-one (x / 1) ∙ div-one x;
      below = zero-lt-suc k;
    }

-- the count is below the width, so that it may be shifted by
pub twos_below : (x : ℕ) → 0 < x → x < 2 ^ 64 → count_trailing_zeros 64 x < 64
twos_below x p h = (twos 64 x p h).below

pub odd_part : (x : ℕ) → 0 < x → x < 2 ^ 64 → OddPart x (x / 2 ^ count_trailing_zeros 64 x)
odd_part x p h =
    let i = twos 64 x p h in
    record { odd = i.odd; whole = i.whole; small = div-le_self x (2 ^ count_trailing_zeros 64 x) }

-- ---- greatest common divisors

odd_two : (d : ℕ) → d % 2 ≡ 1 → gcd_of d 2 ≡ 1
unfolding gcd_of euclid
odd_two d e = ap (euclid 1 2) e

-- what divides an odd number is odd
odd_divisor : (d n : ℕ) → d ∣ n → n % 2 ≡ 1 → d % 2 ≡ 1
odd_divisor d n h o = go (eq-zero-or-pos (d % 2))
  where
    go : (d % 2 ≡ 0) ⊎ (0 < d % 2) → d % 2 ≡ 1
    go (inl e) = omega (arith, mod-eq-zero_of_dvd 2 (dvd_trans 2 (dvd_of_mod-eq-zero 2 e) h))
    go (inr p) = omega arith

-- and it divides what is left of a number without its twos
odd_strip : (d n t : ℕ) → d % 2 ≡ 1 → d ∣ n * 2 ^ t → d ∣ n
odd_strip d n zero o h = rw mul-one at h
odd_strip d n (suc t) o h = odd_strip d n t o (gauss d 2 (n * 2 ^ t) (odd_two d o) (rw (pow-suc, ← mul_assoc, mul_comm (n * 2 ^ t) 2) at h))

-- an odd number shares no twos
pub gcd_strip : (n t b : ℕ) → b % 2 ≡ 1 → gcd_of (n * 2 ^ t) b ≡ gcd_of n b
gcd_strip n t b o =
    gcd_same (n * 2 ^ t) b n b
    (λ d p q. (odd_strip d n t (odd_divisor d b q o) p, q))
    (λ d p q. (dvd-mul_right_of_dvd d p (2 ^ t), q))

gcd_twos_le : (m n p q : ℕ) → m % 2 ≡ 1 → p ≤ q → gcd_of (m * 2 ^ p) (n * 2 ^ q) ≡ gcd_of m n * 2 ^ p
gcd_twos_le m n p q o h =
    ap (gcd_of (m * 2 ^ p)) apart
    ∙ gcd_scale m (n * 2 ^ (q - p)) (2 ^ p)
    ∙ ap (λ x. x * 2 ^ p) (gcd_comm m (n * 2 ^ (q - p)) ∙ gcd_strip n (q - p) m o ∙ gcd_comm n m)
  where
    sum : q ≡ q - p + p
    sum = omega arith

    apart : n * 2 ^ q ≡ n * 2 ^ (q - p) * 2 ^ p
    apart = ap (λ x. n * 2 ^ x) sum ∙ ap (λ x. n * x) (pow-add 2 (q - p) p) ∙ sym (mul_assoc n (2 ^ (q - p)) (2 ^ p))

-- the greatest common divisor of two numbers from that of their odd parts
pub gcd_twos : (m n p q : ℕ) → m % 2 ≡ 1 → n % 2 ≡ 1 → gcd_of (m * 2 ^ p) (n * 2 ^ q) ≡ gcd_of m n * 2 ^ min p q
gcd_twos m n p q o u = go (dec_le p q)
  where
    go : Dec (p ≤ q) → gcd_of (m * 2 ^ p) (n * 2 ^ q) ≡ gcd_of m n * 2 ^ min p q
    go (yes h) = let e : min p q ≡ p = omega arith in rw e (gcd_twos_le m n p q o h)
    go (no h) =
        let e : min p q ≡ q = omega arith in
        rw e (gcd_comm (m * 2 ^ p) (n * 2 ^ q) ∙ gcd_twos_le n m q p u (omega arith) ∙ ap (λ x. x * 2 ^ q) (gcd_comm n m))
