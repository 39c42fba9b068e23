-- By the divisor of a and what Euclid's step leaves of b.
use Rattle.std.proofs.Common.{arith, ℕ, ◌≡◌, sym, ap, ◌∙◌, ◌*◌, ◌/◌, ◌%◌, div-one}
use Rattle.std.proofs.Math.Nat.{pos_of_dvd_of_pos}
use Rattle.fraction.specs.Divisors.{IsGcd, IsLcm, lcm_of}
use Rattle.fraction.proofs.GcdLaws.{gcd_flip, gcd_step}
use Rattle.fraction.proofs.LcmLaws.{lcm_is, lcm_zero, lcm_by_gcd}
use Rattle.fraction.proofs.lcm.Goals as goal

divided : (b : ℕ) {a g : ℕ} → IsGcd a (b % a) g → a / g * b ≡ lcm_of a b
divided b i = lcm_by_gcd (gcd_flip (gcd_step i))

product : (b : ℕ) {a g : ℕ} → IsGcd a (b % a) g → g ≡ 1 → a * b ≡ lcm_of a b
product b {a} {g} i e = ap (λ n. n * b) (sym (ap (λ n. a / n) e ∙ div-one a)) ∙ divided b i

rule : (a b : ℕ) {r : ℕ} → r ≡ lcm_of a b → IsLcm a b r
rule a b e = rw e (lcm_is a b)

pub returns-then-a-eq0-clause-answer : goal.returns-then-a-eq0-clause-answer
returns-then-a-eq0-clause-answer c = sym (lcm_zero _ (omega arith))

pub returns-then-a-eq0-clause-rule : goal.returns-then-a-eq0-clause-rule
returns-then-a-eq0-clause-rule c = rule _ _ (sym (lcm_zero _ (omega arith)))

pub overflow_mul-result : goal.overflow_mul-result
overflow_mul-result c = record { fits = omega (arith, product c.args.b c.gcd-g.ensures c.if-g-eq1.true) }

pub returns-then-g-eq1-clause-answer : goal.returns-then-g-eq1-clause-answer
returns-then-g-eq1-clause-answer c = product c.args.b c.gcd-g.ensures c.if-g-eq1.true

pub returns-then-g-eq1-clause-rule : goal.returns-then-g-eq1-clause-rule
returns-then-g-eq1-clause-rule c = rule _ _ (product c.args.b c.gcd-g.ensures c.if-g-eq1.true)

pub nonzero_div-result : goal.nonzero_div-result
nonzero_div-result c = pos_of_dvd_of_pos c.gcd-g.ensures.left (omega arith)

pub overflow_mul-result-2 : goal.overflow_mul-result-2
overflow_mul-result-2 c = record { fits = omega (arith, divided c.args.b c.gcd-g.ensures) }

pub returns-clause-answer : goal.returns-clause-answer
returns-clause-answer c = divided c.args.b c.gcd-g.ensures

pub returns-clause-rule : goal.returns-clause-rule
returns-clause-rule c = rule _ _ (divided c.args.b c.gcd-g.ensures)
