-- The outcome that an answer on a row's place stands for.
-- Definitions only.
use Rattle.std.specs.Prelude.{ℕ, Result}
use Rattle.refusals.specs.declared.Refusal.{Refusal}
use Rattle.refusals.specs.Outcomes.{Outcome, outcome_of}
use Rattle.refusals.specs.Causes.{part_of}
use Rattle.table_lookup.specs.declared.RowPlace.{RowPlace}

-- where the row begins and how many entries it has, or the refusal's number
abbrev pub outcome_of_place : Result RowPlace Refusal → Outcome (ℕ × ℕ)
outcome_of_place answer = part_of (λ (p : RowPlace). (p.start, p.entries)) (outcome_of answer)
