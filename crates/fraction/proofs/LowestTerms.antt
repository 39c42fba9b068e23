-- The rule of cancelling leaves one answer, a given pair is in lowest terms, what is due obeys the rule, and equal fractions have one answer.
use Rattle.std.proofs.Common.{⊎_elim, sym, ap, ap₂, ◌∙◌, eq-zero-or-pos, one-mul, mul_comm, arith, ne_eqb}
use Rattle.std.specs.Prelude.{◌≡◌, refl, ℕ, ◌*◌, ◌/◌, ◌<◌}
use Rattle.std.specs.Int.{◌∣◌}
use Rattle.std.proofs.Math.Nat.{mul-div-mul_right, zero-div, div_self, div-mul_cancel, eq_of_mul-eq-mul_right, eq-one_of_dvd-one, pos_of_dvd_of_pos}
use Rattle.refusals.specs.Outcomes.{Outcome, gives, refuses}
use Rattle.fraction.specs.Divisors.{gcd_of}
use Rattle.fraction.specs.Cancel.{cancelled, cancel_outcome, CancelsTo, CancelRule}
use Rattle.fraction.proofs.GcdLaws.{gcd_zero, gcd_flip, gcd_is, gcd_unique, is_gcd_of, gcd_scale}

-- ---- the rule

divisor_positive : {a b p q : ℕ} (i : CancelsTo a b p q) → 0 < i.divisor
divisor_positive i = pos_of_dvd_of_pos i.greatest.right i.above

-- the rule leaves one answer
pub rule_determines : (a b : ℕ) (x y : Outcome (ℕ × ℕ)) → CancelRule a b x → CancelRule a b y → x ≡ y
rule_determines a b (gives (p, q)) (gives (s, t)) i j = ap₂ (λ x y. gives (x, y)) (same i.top j.top) (same i.bottom j.bottom)
  where
    same : {m n c : ℕ} → m * i.divisor ≡ c → n * j.divisor ≡ c → m ≡ n
    same {m} {n} e f =
        eq_of_mul-eq-mul_right j.divisor (divisor_positive j) m n (ap (λ g. m * g) (gcd_unique j.greatest i.greatest) ∙ e ∙ sym f)
rule_determines a b (gives v) (refuses k) i j = absurd (omega (arith, i.above))
rule_determines a b (refuses k) (gives v) i j = absurd (omega (arith, j.above))
rule_determines a b (refuses k) (refuses n) i j = ap refuses (i.0 ∙ sym j.0)

-- the pair has no common divisor left but 1
pub lowest : {a b p q : ℕ} → CancelsTo a b p q → (d : ℕ) → d ∣ p → d ∣ q → d ≡ 1
lowest {a} {b} {p} {q} i d left right = eq-one_of_dvd-one (rw one at ((gcd_is p q).greatest d left right))
  where
    g : ℕ
    g = i.divisor

    scaled : gcd_of p q * g ≡ 1 * g
    scaled = sym (gcd_scale p q g) ∙ rw (i.top, i.bottom) (sym (is_gcd_of i.greatest) ∙ sym (one-mul g))

    one : gcd_of p q ≡ 1
    one = eq_of_mul-eq-mul_right g (divisor_positive i) (gcd_of p q) 1 scaled

-- ---- what is due

pub cancel_refused : {b : ℕ} (a : ℕ) → b ≡ 0 → cancel_outcome a b ≡ refuses 9
unfolding cancel_outcome
cancel_refused a e = rw e

pub cancel_divided : (a b : ℕ) → 0 < b → cancel_outcome a b ≡ gives (cancelled a b)
unfolding cancel_outcome
cancel_divided a b h = rw (ne_eqb b 0 (omega arith))

-- 0 over a number above 0 is 0 over 1
pub cancel_zero : (b : ℕ) → 0 < b → cancel_outcome 0 b ≡ gives (0, 1)
cancel_zero b h = cancel_divided 0 b h ∙ rw (← is_gcd_of (gcd_flip (gcd_zero b)), zero-div b, div_self h)

pub cancel_rule : (a b : ℕ) → CancelRule a b (cancel_outcome a b)
cancel_rule a b =
    ⊎_elim (λ z. rw (cancel_refused a z) (refl, z)) (λ h. rw (cancel_divided a b h) (divided h)) (eq-zero-or-pos b)
  where
    g : ℕ
    g = gcd_of a b

    divided : 0 < b → CancelsTo a b (a / g) (b / g)
    divided h = record {
      divisor = g;
      greatest = gcd_is a b;
      top = div-mul_cancel g (gcd_is a b).left;
      bottom = div-mul_cancel g (gcd_is a b).right;
      above = h;
    }

-- ---- equal fractions cancel to the same pair

cancelled_scale : (a b k : ℕ) → 0 < k → cancelled (a * k) (b * k) ≡ cancelled a b
cancelled_scale a b k h =
    let g = gcd_of a b in
    rw (gcd_scale a b k) (ap₂ (λ p q. (p, q)) (mul-div-mul_right a g h) (mul-div-mul_right b g h))

pub cancelled-same : (a b c d : ℕ) → 0 < b → 0 < d → a * d ≡ c * b → cancelled a b ≡ cancelled c d
cancelled-same a b c d hb hd e = sym (cancelled_scale a b d hd) ∙ ap₂ cancelled e (mul_comm b d) ∙ cancelled_scale c d b hb
