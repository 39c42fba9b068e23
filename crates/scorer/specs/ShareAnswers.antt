-- The outcome that an answer of Share stands for.
-- Definitions only.
use Rattle.std.specs.Prelude.{ℕ, Result}
use Rattle.refusals.specs.declared.Refusal.{Refusal}
use Rattle.refusals.specs.Outcomes.{Outcome, outcome_of}
use Rattle.refusals.specs.Causes.{part_of}
use Rattle.scorer.specs.declared.BusShare.{BusShare}

-- the numerator and L, or the refusal's number
abbrev pub outcome_of_share : Result BusShare Refusal → Outcome (ℕ × ℕ)
outcome_of_share answer = part_of (λ (s : BusShare). (s.numerator, s.over)) (outcome_of answer)
