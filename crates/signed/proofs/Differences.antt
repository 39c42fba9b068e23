-- Laws of differences of naturals as signed numbers. omega does not read ℤ: two differences are compared by an equation of naturals
-- (`difference-same`), added and multiplied part by part, and fit a signed width where both parts do.
use Rattle.std.specs.Prelude.{◌≡◌, refl, ℕ, zero, suc, ◌+◌, ◌-◌, ◌*◌, ◌^◌, ◌≤◌, ◌<◌, ltb, nat_abs, pos, negsuc, neg_ℤ, ◌+ℤ◌, ◌*ℤ◌}
use Rattle.std.proofs.Common.{sym, ap, ap₂, ◌∙◌, arith, SFits, ltb-true, ltb-false, lt-ltb, le-ltb}
use Rattle.std.proofs.Math.IntN.{sub_ℕ, +ℤ_idr}
use Rattle.std.specs.Int.Signed.{mag}
use Rattle.std.specs.Int.{w64}
use Rattle.lists.specs.Below.{sum_below}
use Rattle.lists.proofs.Tests.{split}
use Rattle.signed.specs.Signed.{difference, total_below}

-- ---- by cases

sub-below : (a b : ℕ) → a < b → sub_ℕ a b ≡ negsuc (b - suc a)
sub-below a b h = rw (lt-ltb a b h)

sub_above : (a b : ℕ) → b ≤ a → sub_ℕ a b ≡ pos (a - b)
sub_above a b h = rw (le-ltb a b h)

sub_same : (a b c d : ℕ) → a + d ≡ c + b → sub_ℕ a b ≡ sub_ℕ c d
sub_same a b c d e =
    split (ltb a b)
    (λ t. let h = ltb-true a b t in sub-below a b h ∙ ap negsuc (omega (arith, e)) ∙ sym (sub-below c d (omega (arith, e))))
    (λ t. let h = ltb-false a b t in sub_above a b h ∙ ap pos (omega (arith, e)) ∙ sym (sub_above c d (omega (arith, e))))

difference-sub : (a b : ℕ) → difference a b ≡ sub_ℕ a b
unfolding difference
difference-sub a zero = +ℤ_idr (pos a) ∙ sym (sub_above a 0 (omega arith) ∙ ap pos (omega arith))
difference-sub a (suc b) = refl

below : (a b : ℕ) → a < b → difference a b ≡ negsuc (b - suc a)
below a b h = difference-sub a b ∙ sub-below a b h

above : (a b : ℕ) → b ≤ a → difference a b ≡ pos (a - b)
above a b h = difference-sub a b ∙ sub_above a b h

-- ---- laws

-- differences agree where the parts agree crosswise
pub difference-same : (a b c d : ℕ) → a + d ≡ c + b → difference a b ≡ difference c d
difference-same a b c d e = difference-sub a b ∙ sub_same a b c d e ∙ sym (difference-sub c d)

pub difference-none : (a b : ℕ) → a ≡ b → difference a b ≡ pos 0
difference-none a b e = above a b (omega arith) ∙ ap pos (omega arith)

difference_pos : (a : ℕ) → difference a 0 ≡ pos a
difference_pos a = above a 0 (omega arith) ∙ ap pos (omega arith)

difference_neg : (b : ℕ) → difference 0 b ≡ neg_ℤ (pos b)
difference_neg zero = difference-none 0 0 refl
difference_neg (suc b) = below 0 (suc b) (omega arith) ∙ ap negsuc (omega arith)

add-sub : (a b c d : ℕ) → sub_ℕ a b +ℤ sub_ℕ c d ≡ sub_ℕ (a + c) (b + d)
add-sub a b c d =
    split (ltb a b)
    (λ t. let h = ltb-true a b t in split (ltb c d)
    (λ u. let k = ltb-true c d u in
    ap₂ ◌+ℤ◌ (sub-below a b h) (sub-below c d k) ∙ ap negsuc (omega arith) ∙ sym (sub-below (a + c) (b + d) (omega arith)))
    (λ u. let k = ltb-false c d u in
    ap₂ ◌+ℤ◌ (sub-below a b h) (sub_above c d k) ∙ sub_same (c - d) (suc (b - suc a)) (a + c) (b + d) (omega arith)))
    (λ t. let h = ltb-false a b t in split (ltb c d)
    (λ u. let k = ltb-true c d u in
    ap₂ ◌+ℤ◌ (sub_above a b h) (sub-below c d k) ∙ sub_same (a - b) (suc (d - suc c)) (a + c) (b + d) (omega arith))
    (λ u. let k = ltb-false c d u in
    ap₂ ◌+ℤ◌ (sub_above a b h) (sub_above c d k) ∙ ap pos (omega arith) ∙ sym (sub_above (a + c) (b + d) (omega arith))))

-- they add up part by part
difference-add : (a b c d : ℕ) → difference a b +ℤ difference c d ≡ difference (a + c) (b + d)
difference-add a b c d = ap₂ ◌+ℤ◌ (difference-sub a b) (difference-sub c d) ∙ add-sub a b c d ∙ sym (difference-sub (a + c) (b + d))

-- and are multiplied so
pub difference_scale : (k a b : ℕ) → pos k *ℤ difference a b ≡ difference (k * a) (k * b)
difference_scale k a b =
    split (ltb a b)
    (λ t. let h = ltb-true a b t in
    let m = b - suc a in
    let e : b ≡ a + suc m = omega arith in
    ap (λ z. pos k *ℤ z) (below a b h) ∙ sym (difference_neg (k * suc m)) ∙ difference-same 0 (k * suc m) (k * a) (k * b) (omega (arith, ap (λ x. k * x) e)))
    (λ t. let h = ltb-false a b t in
    let m = a - b in
    let e : a ≡ m + b = omega arith in
    ap (λ z. pos k *ℤ z) (above a b h) ∙ sym (difference_pos (k * m)) ∙ difference-same (k * m) 0 (k * a) (k * b) (omega (arith, ap (λ x. k * x) e)))

-- a difference is as small as its parts, as the machine measures it, and without its sign
difference_mag : (m a b : ℕ) → a < m → b < m → mag (difference a b) < m
difference_mag m a b p q =
    split (ltb a b)
    (λ t. let h = ltb-true a b t in rw (below a b h) (omega arith))
    (λ t. let h = ltb-false a b t in rw (above a b h) (omega arith))

pub difference_abs : (m a b : ℕ) → a ≤ m → b ≤ m → nat_abs (difference a b) ≤ m
difference_abs m a b p q =
    split (ltb a b)
    (λ t. let h = ltb-true a b t in rw (below a b h) (omega arith))
    (λ t. let h = ltb-false a b t in rw (above a b h) (omega arith))

-- so it fits 64 bits where both parts are below half their power
pub difference_fits : (a b : ℕ) → a < 2 ^ 63 → b < 2 ^ 63 → SFits w64 (difference a b)
difference_fits a b p q = record { sfits = difference_mag (2 ^ 63) a b p q }

-- a sum of differences is the difference of the sums
pub total_difference : (f g : ℕ → ℕ) (n : ℕ) → total_below n (λ i. difference (f i) (g i)) ≡ difference (sum_below n f) (sum_below n g)
unfolding total_below sum_below
total_difference f g zero = sym (difference-none 0 0 refl)
total_difference f g (suc n) = ap (λ z. z +ℤ difference (f n) (g n)) (total_difference f g n) ∙ difference-add (sum_below n f) (sum_below n g) (f n) (g n)
