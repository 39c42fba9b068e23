-- What a call gives: its values, or the number of the first cause that holds, in the order in which the scope lists a call's causes.
-- Definitions only.
use Rattle.std.specs.Prelude.{Bool, cond, List, [], ◌∷◌, ℕ, Result, Ok, Err}
use Rattle.refusals.specs.declared.Refusal.{Refusal}
use Rattle.refusals.specs.Numbers.{number_of}

-- the values of a call, or a refusal's number alone
pub data Outcome (A : Type 0) : Type 0 where
  gives : A → Outcome A
  refuses : ℕ → Outcome A

-- the outcome that an answer stands for: its values, or the number of its refusal
abbrev pub outcome_of : {A : Type 0} → Result A Refusal → Outcome A
outcome_of (Ok values) = gives values
outcome_of (Err refusal) = refuses (number_of refusal)

-- a test, and the refusal that it is the cause of
pub record Cause : Type 0 where
  pub test : Bool
  pub refusal : Refusal

infix 45 ◌⇒◌
abbrev pub ◌⇒◌ : Bool → Refusal → Cause
b ⇒ r = record { test = b; refusal = r }

module _ {A : Type 0} where
  -- the first cause that holds refuses; if none does, the call gives its values
  abbrev pub outcome : List Cause → A → Outcome A
  outcome [] values = gives values
  outcome (c ∷ cs) values = cond c.test (refuses (number_of c.refusal)) (outcome cs values)

  -- the values, or what stands in for them where the call is refused
  abbrev pub values_or : A → Outcome A → A
  values_or other (gives values) = values
  values_or other (refuses number) = other
