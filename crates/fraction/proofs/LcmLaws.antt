-- `lcm_of` is the least common multiple and there is no other; `lcm_all` is that of a whole list.
use Rattle.std.specs.Prelude.{List, [], ◌∷◌, ◌⊎◌, ◌≡◌, ℕ, ◌+◌, ◌*◌, ◌/◌, ◌<◌, eqb}
use Rattle.std.proofs.Common.{inl, inr, sym, ap, ◌∙◌, eq-zero-or-pos, mul_comm, mul_assoc, one-mul, zero-mul, arith, eqb-true}
use Rattle.std.specs.Int.{◌∣◌}
use Rattle.std.proofs.Math.Nat.{zero-div, div-mul_cancel, mul-div_cancel', dvd-zero, dvd_trans, dvd_antisymm, dvd-mul_left, dvd-mul_right, one-dvd, dvd-add_iff_right, mul-dvd-mul_left, dvd_of_mul-dvd-mul_left, eq-zero_of_zero-dvd}
use Rattle.lists.specs.Lists.{indicator, count, ◌∈◌}
use Rattle.lists.specs.Below.{map_below}
use Rattle.lists.proofs.Tests.{split}
use Rattle.lists.proofs.Counts.{in_first, count-append}
use Rattle.lists.proofs.Loops.{map_below-next}
use Rattle.fraction.specs.Divisors.{IsGcd, gcd_of, IsLcm, lcm_of, lcm_all, CommonMultiple}
use Rattle.fraction.proofs.GcdLaws.{gcd_is, is_gcd_of, gcd_scale}

-- ---- `lcm_of` is the least common multiple

pub gcd_lcm : (a b : ℕ) → gcd_of a b * lcm_of a b ≡ a * b
unfolding lcm_of
gcd_lcm a b = sym (mul_assoc (gcd_of a b) (a / gcd_of a b) b) ∙ ap (λ n. n * b) (mul-div_cancel' (gcd_of a b) (gcd_is a b).left)

lcm_left : (a b : ℕ) → a ∣ lcm_of a b
unfolding lcm_of
lcm_left a b = rw (← moved) (dvd-mul_right a (b / g))
  where
    g : ℕ
    g = gcd_of a b

    moved : a * (b / g) ≡ a / g * b
    moved =
        omega
        (arith, ap (λ n. n * (b / g)) (div-mul_cancel g (gcd_is a b).left), ap (λ n. a / g * n) (div-mul_cancel g (gcd_is a b).right))

lcm_least : (a b n : ℕ) → a ∣ n → b ∣ n → lcm_of a b ∣ n
lcm_least a b n p q = go (eq-zero-or-pos (gcd_of a b))
  where
    go : (gcd_of a b ≡ 0) ⊎ (0 < gcd_of a b) → lcm_of a b ∣ n
    go (inl e) =
        let none : n ≡ 0 = eq-zero_of_zero-dvd (rw e at (dvd_trans (gcd_of a b) (gcd_is a b).left p)) in
        rw none (dvd-zero (lcm_of a b))
    go (inr h) =
        dvd_of_mul-dvd-mul_left (lcm_of a b) h
        (rw (gcd_lcm, ← gcd_scale)
        ((gcd_is (a * n) (b * n)).greatest (a * b) (mul-dvd-mul_left b a q) (rw (mul_comm a b) (mul-dvd-mul_left a b p))))

pub lcm_is : (a b : ℕ) → IsLcm a b (lcm_of a b)
unfolding lcm_of
lcm_is a b = record { left = lcm_left a b; right = dvd-mul_left b (a / gcd_of a b); least = lcm_least a b }

pub lcm_unique : {a b m n : ℕ} → IsLcm a b m → IsLcm a b n → m ≡ n
lcm_unique {m = m} {n = n} i j = dvd_antisymm (i.least n j.left j.right) (j.least m i.left i.right)

pub lcm_zero : {a : ℕ} (b : ℕ) → a ≡ 0 → lcm_of a b ≡ 0
unfolding lcm_of
lcm_zero b e = rw (e, zero-div, zero-mul)

-- as the code computes it
pub lcm_by_gcd : {a b g : ℕ} → IsGcd a b g → a / g * b ≡ lcm_of a b
unfolding lcm_of
lcm_by_gcd {a} {b} i = rw (is_gcd_of i)

-- what two numbers divide that share no factor, their product divides
coprime_product : (a b m : ℕ) → gcd_of a b ≡ 1 → a ∣ m → b ∣ m → a * b ∣ m
coprime_product a b m e p q =
    let product : lcm_of a b ≡ a * b = sym (one-mul (lcm_of a b)) ∙ ap (λ g. g * lcm_of a b) (sym e) ∙ gcd_lcm a b in
    rw product at (lcm_least a b m p q)

-- d and d + 1 share no factor
pub next_product : (d m : ℕ) → d ∣ m → d + 1 ∣ m → d * (d + 1) ∣ m
next_product d m =
    coprime_product d (d + 1) m
    (sym (is_gcd_of (record { left = one-dvd d; right = one-dvd (d + 1); greatest = λ c p q. (dvd-add_iff_right c p).1 q })))

-- ---- of a list

pub lcm_all_multiple : (l : List ℕ) → CommonMultiple l (lcm_all l)
unfolding lcm_all
lcm_all_multiple [] x i = absurd (omega arith)
lcm_all_multiple (y ∷ l) x i =
    let both = lcm_is y (lcm_all l) in
    split (eqb x y)
    (λ e. rw (eqb-true x y e) both.left)
    (λ e. dvd_trans x (lcm_all_multiple l x (omega (arith, ap indicator e))) both.right)

pub lcm_all_least : (l : List ℕ) (m : ℕ) → CommonMultiple l m → lcm_all l ∣ m
unfolding lcm_all
lcm_all_least [] m h = one-dvd m
lcm_all_least (x ∷ l) m h = lcm_least x (lcm_all l) m (h x (in_first x l)) (lcm_all_least l m (λ y i. h y (omega arith)))

-- fewer numbers, a divisor; so neither order nor repeats matter, only which numbers are listed
pub lcm_all-part : (l k : List ℕ) → ((x : ℕ) → x ∈ l → x ∈ k) → lcm_all l ∣ lcm_all k
lcm_all-part l k h = lcm_all_least l (lcm_all k) (λ x i. lcm_all_multiple k x (h x i))

-- one number more, as a loop folds it
pub lcm_all-next : (f : ℕ → ℕ) (n : ℕ) → lcm_of (f n) (lcm_all (map_below n f)) ≡ lcm_all (map_below (n + 1) f)
unfolding lcm_all
lcm_all-next f n =
    dvd_antisymm
    (lcm_all-part (f n ∷ map_below n f) (map_below (n + 1) f) (λ x i. omega (arith, same x)))
    (lcm_all-part (map_below (n + 1) f) (f n ∷ map_below n f) (λ x i. omega (arith, same x)))
  where
    same : (x : ℕ) → count x (map_below (n + 1) f) ≡ count x (map_below n f) + count x (f n ∷ [])
    same x = ap (count x) (map_below-next n f) ∙ count-append x (map_below n f) (f n ∷ [])
