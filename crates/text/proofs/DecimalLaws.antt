-- Laws of decimal numbers.
use Rattle.std.specs.Prelude.{true, List, [], ◌∷◌, ◌++◌, ◌≡◌, refl, ℕ, zero, suc, ◌+◌, ◌-◌, ◌*◌, ◌/◌, ◌%◌, ◌^◌, ◌≤◌, ◌<◌, ltb, length}
use Rattle.std.proofs.Common.{sym, ap, ◌∙◌, le_refl, pow-suc, arith, le-ltb, lt-ltb, ltb-true, ltb-false, length-append}
use Rattle.lists.specs.Lists.{at}
use Rattle.lists.proofs.Places.{at-append}
use Rattle.lists.proofs.Tests.{split}
use Rattle.text.specs.Text.{digit, digits, decimal, digits_value}

digits-one : (f n : ℕ) → digits f true n ≡ digit n ∷ []
digits-one zero n = refl
digits-one (suc f) n = refl

-- more digits than are enough change nothing
digits_enough : (f g n : ℕ) → n ≤ f → n ≤ g → digits f (ltb n 10) n ≡ digits g (ltb n 10) n
digits_enough zero g n p q = rw (lt-ltb n 10 (omega arith)) (sym (digits-one g n))
digits_enough (suc f) zero n p q = rw (lt-ltb n 10 (omega arith)) refl
digits_enough (suc f) (suc g) n p q =
    split (ltb n 10)
    (λ e. rw e refl)
    (λ e. let l : 10 ≤ n = ltb-false n 10 e in rw (e, digits_enough f g (n / 10) (omega arith) (omega arith)))

pub decimal_small : (n : ℕ) → n < 10 → decimal n ≡ digit n ∷ []
unfolding decimal
decimal_small n l = rw (lt-ltb n 10 l) (digits-one n n)

pub decimal-large : (n : ℕ) → 10 ≤ n → decimal n ≡ decimal (n / 10) ++ (digit (n % 10) ∷ [])
unfolding decimal
decimal-large zero l = absurd (omega arith)
decimal-large (suc k) l =
    rw (le-ltb (suc k) 10 l)
    (ap (λ l. l ++ (digit (suc k % 10) ∷ [])) (digits_enough k (suc k / 10) (suc k / 10) (omega arith) (le_refl _)))

-- a digit is added to those of a tenth
pub length-large : (n : ℕ) → 10 ≤ n → length (decimal n) ≡ length (decimal (n / 10)) + 1
length-large n l = ap length (decimal-large n l) ∙ length-append (decimal (n / 10)) _

pub length_small : (n : ℕ) → n < 10 → length (decimal n) ≡ 1
length_small n l = ap length (decimal_small n l)

pub decimal_pos : (n : ℕ) → 0 < length (decimal n)
decimal_pos n =
    split (ltb n 10)
    (λ e. omega (arith, length_small n (ltb-true n 10 e)))
    (λ e. omega (arith, length-large n (ltb-false n 10 e)))

-- numbers below ten to the k have at most k digits
pub decimal-le : (k n : ℕ) → n < 10 ^ suc k → length (decimal n) ≤ suc k
decimal-le zero n l = omega (arith, length_small n l)
decimal-le (suc k) n l =
    split (ltb n 10)
    (λ e. omega (arith, length_small n (ltb-true n 10 e)))
    (λ e. let g : 10 ≤ n = ltb-false n 10 e in omega (arith, length-large n g, decimal-le k (n / 10) (omega (arith, pow-suc 10 (suc k)))))

-- ---- the value of the digits

digits_value-append : (a : ℕ) (l : List ℕ) (b : ℕ) → digits_value a (l ++ (b ∷ [])) ≡ digits_value a l * 10 + (b - 48)
digits_value-append a [] b = refl
digits_value-append a (x ∷ l) b = digits_value-append (a * 10 + (x - 48)) l b

-- what holds of one digit, and of a number if it holds of a tenth of it, holds of all
module _ (P : ℕ → Type 0) (small : (n : ℕ) → n < 10 → P n) (large : (n : ℕ) → 10 ≤ n → P (n / 10) → P n) where
  by_tenths_bounded : (most n : ℕ) → n ≤ most → P n
  by_tenths_bounded zero n h = small n (omega arith)
  by_tenths_bounded (suc most) n h =
      split (ltb n 10)
      (λ e. small n (ltb-true n 10 e))
      (λ e. let g : 10 ≤ n = ltb-false n 10 e in large n g (by_tenths_bounded most (n / 10) (omega arith)))

  by_tenths : (n : ℕ) → P n
  by_tenths n = by_tenths_bounded n n (le_refl n)

-- which is the number itself
pub decimal-value : (n : ℕ) → digits_value 0 (decimal n) ≡ n
decimal-value =
    by_tenths (λ n. digits_value 0 (decimal n) ≡ n)
    (λ n l. ap (digits_value 0) (decimal_small n l) ∙ omega arith)
    (λ n l e. ap (digits_value 0) (decimal-large n l) ∙ digits_value-append 0 (decimal (n / 10)) _ ∙ omega (arith, e))

-- the first digit of a number above zero is not `0`
pub no_leading_zero : (n : ℕ) → 0 < n → 48 < at (decimal n) 0
unfolding at
no_leading_zero =
    by_tenths (λ n. 0 < n → 48 < at (decimal n) 0)
    (λ n l p. rw (decimal_small n l) (omega arith))
    (λ n l q p. rw (decimal-large n l, at-append (decimal (n / 10)) (digit (n % 10) ∷ []) 0 (decimal_pos (n / 10))) (q (omega arith)))

-- a smaller number has no more digits
decimal_grows : (m n : ℕ) → n ≤ m → length (decimal n) ≤ length (decimal m)
decimal_grows =
    by_tenths (λ m. (n : ℕ) → n ≤ m → length (decimal n) ≤ length (decimal m))
    (λ m l n h. omega (arith, length_small m l, length_small n (omega arith)))
    (λ m l q n h.
    split (ltb n 10)
    (λ e. omega (arith, decimal_pos m, length_small n (ltb-true n 10 e)))
    (λ e. omega (arith, length-large m l, length-large n (ltb-false n 10 e), q (n / 10) (omega arith))))

-- so it fits where a larger one does
pub smaller_fits : (at m : ℕ) {n end : ℕ} → n ≤ m → at + length (decimal m) ≤ end → at + length (decimal n) ≤ end
smaller_fits at m h fits = omega (arith, decimal_grows m _ h)
