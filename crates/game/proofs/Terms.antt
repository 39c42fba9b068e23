-- Laws of the terms of a bus: where they are whole numbers, what they come to together, and what they are with need 1.
use Rattle.std.proofs.Common.{⊎_elim, sym, ap, ◌∙◌, eq-zero-or-pos, one-mul, sub-add_cancel, div-one, arith, leb-true, le-leb}
use Rattle.std.specs.Prelude.{◌≡◌, ℕ, ◌+◌, ◌-◌, ◌*◌, ◌/◌, ◌≤◌, ◌<◌, leb}
use Rattle.std.specs.Int.{◌∣◌}
use Rattle.std.proofs.Math.Nat.{eq_of_mul-eq-mul_right, dvd_trans, dvd-mul_left, dvd-mul_right, dvd-mul_left_of_dvd, dvd-add_iff_right, mul-dvd-mul_left, div-mul_cancel, mul-div-mul_left}
use Rattle.lists.proofs.Tests.{split}
use Rattle.game.specs.Game.{own_term, neighbour_term, Whole}

-- ---- whole numbers

-- where the neighbour's term is whole, so is the own one: k and d + 1 - k make up d + 1
pub own_whole : (k d L : ℕ) → k ≤ d → d * (d + 1) ∣ (d + 1 - k) * L → d + 1 ∣ k * L
own_whole k d L h w =
    let all : (d + 1 - k) * L + k * L ≡ (d + 1) * L = omega (arith, ap (λ n. n * L) (sub-add_cancel {n = d + 1} {m = k} (omega arith))) in
    (dvd-add_iff_right (d + 1) (dvd_trans (d + 1) (dvd-mul_left (d + 1) d) w)).1 (rw all (dvd-mul_right (d + 1) L))

-- a bus's own term and the terms of its d watchers make up all of L
pub terms_whole : (k d L : ℕ) → Whole k d L → own_term k d L + d * neighbour_term k d L ≡ L
unfolding own_term neighbour_term
terms_whole k d L w =
    split (leb k d)
    (λ t. let h = leb-true k d t in
    rw t (eq_of_mul-eq-mul_right (d + 1) (omega arith) _ L
    (omega (
      arith,
      div-mul_cancel (d * (d + 1)) (w h),
      div-mul_cancel (d + 1) (own_whole k d L h (w h)),
      ap (λ n. n * L) (sub-add_cancel {n = d + 1} {m = k} (omega arith)),
    ))))
    (λ t. rw t (omega arith))

-- it is enough that d(d+1) divides L
pub whole_degree : (k d L : ℕ) → 0 < k → (0 < d → d * (d + 1) ∣ L) → Whole k d L
whole_degree k d L hk h l = dvd-mul_left_of_dvd (d * (d + 1)) (h (omega arith)) (d + 1 - k)

-- and with need 1 that d + 1 does
pub whole_one : (d L : ℕ) → d + 1 ∣ L → Whole 1 d L
whole_one d L h l = let e : d + 1 - 1 ≡ d = omega arith in rw e (mul-dvd-mul_left (d + 1) d h)

-- ---- need 1: each of a bus and its watchers gets 1/(d+1)

pub own-one : (d L : ℕ) → own_term 1 d L ≡ L / (d + 1)
unfolding own_term
own-one d L =
    ⊎_elim
    (λ z. rw z (sym (div-one L)))
    (λ p. rw (le-leb 1 d p) (ap (λ n. n / (d + 1)) (one-mul L))) (eq-zero-or-pos d)

pub neighbour-one : (d L : ℕ) → 0 < d → neighbour_term 1 d L ≡ L / (d + 1)
unfolding neighbour_term
neighbour-one d L p =
    let e : d + 1 - 1 ≡ d = omega arith in
    rw (le-leb 1 d p) (ap (λ n. n * L / (d * (d + 1))) e ∙ mul-div-mul_left L (d + 1) p)
