-- How a caller in C gets an answer: a status, and values in lent places.
-- Definitions only.
use Rattle.std.specs.Prelude.{◌≡◌, ℕ, zero, suc}
use Rattle.refusals.specs.Outcomes.{Outcome, gives, refuses, values_or}
use Rattle.network.specs.declared.Counts.{Counts}

module _ {A : Type 0} where
  -- 0 where the call gives its values, or the refusal's number
  abbrev pub status_of : Outcome A → ℕ
  status_of (gives values) = 0
  status_of (refuses number) = number

  -- a call whose outcome is o returns the status r, and its lent places, which held x, hold y afterwards: the values, or what they held
  pub record ByStatus (o : Outcome A) (x : A) (r : ℕ) (y : A) : Type 0 where
    pub status : r ≡ status_of o
    pub values : y ≡ values_or x o

  -- the other way round: the outcome that a status and the values in the lent places stand for
  abbrev pub outcome_of_status : ℕ → A → Outcome A
  outcome_of_status zero values = gives values
  outcome_of_status (suc k) values = refuses (suc k)

-- the counts that stand in two lent places
abbrev pub counted : ℕ → ℕ → Counts
counted n m = record { buses = n; lines = m }
