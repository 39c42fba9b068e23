-- How a call's causes decide, one after another: what is answered, and what lent entries hold after it.
use Rattle.std.specs.Prelude.{List, ◌≡◌}
use Rattle.refusals.specs.Outcomes.{Outcome, Cause, outcome, values_or}

-- where these causes decide, a call that gives these values and stores s is due this answer, and entries that held x hold y after it
pub record Due {A B : Type 0} (cs : List Cause) (values : A) (s x : B) (answer : Outcome A) (y : B) : Type 0 where
  pub answered : answer ≡ outcome cs values
  pub after : y ≡ values_or x (outcome cs s)

-- the same of a call that stores nothing
abbrev pub Answered : {A : Type 0} → List Cause → A → Outcome A → Type 0
Answered cs values answer = Due {B = Unit {0}} cs values tt tt answer tt
