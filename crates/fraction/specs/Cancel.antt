-- Cancelling a fraction: the outcome that an answer of `cancel` stands for, which one is due, and the rule that it obeys.
-- Definitions only.
use Rattle.std.specs.Prelude.{[], ◌∷◌, ◌≡◌, ℕ, ◌*◌, ◌/◌, ◌<◌, eqb, Result}
use Rattle.refusals.specs.declared.Refusal.TheVariants.{NoDenominator}
use Rattle.refusals.specs.declared.Refusal.{Refusal}
use Rattle.refusals.specs.Outcomes.{Outcome, gives, refuses, outcome_of, ◌⇒◌, outcome}
use Rattle.refusals.specs.Causes.{part_of}
use Rattle.fraction.specs.declared.Lowest.{Lowest}
use Rattle.fraction.specs.Divisors.{IsGcd, gcd_of}

-- the outcome that an answer of `cancel` stands for: the fraction's two numbers, or the refusal's number
abbrev pub outcome_of_cancelled : Result Lowest Refusal → Outcome (ℕ × ℕ)
outcome_of_cancelled answer = part_of (λ (f : Lowest). (f.top, f.bottom)) (outcome_of answer)

-- both numbers divided by their greatest common divisor
abbrev pub cancelled : ℕ → ℕ → ℕ × ℕ
cancelled a b = (a / gcd_of a b, b / gcd_of a b)

-- denominator 0 is refused whatever the numerator
unfoldable pub cancel_outcome : ℕ → ℕ → Outcome (ℕ × ℕ)
unfolding gcd_of
cancel_outcome a b = outcome ((eqb b 0 ⇒ NoDenominator) ∷ []) (cancelled a b)

-- p over q is a over b with the greatest common divisor of a and b taken out, and b is not 0
pub record CancelsTo (a b p q : ℕ) : Type 0 where
  pub divisor : ℕ
  pub greatest : IsGcd a b divisor
  pub top : p * divisor ≡ a
  pub bottom : q * divisor ≡ b
  pub above : 0 < b

-- a pair that is given is as `CancelsTo` says; a refusal has number 9, and the denominator is 0
abbrev pub CancelRule : ℕ → ℕ → Outcome (ℕ × ℕ) → Type 0
CancelRule a b (gives (p, q)) = CancelsTo a b p q
CancelRule a b (refuses k) = (k ≡ 9) × (b ≡ 0)
