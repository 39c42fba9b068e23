-- A status and the values beside it are the outcome: 0 stands for accepted, and no other number does.
use Rattle.std.specs.Prelude.{Bool, true, false, cond, List, [], ◌∷◌, ◌≡◌, refl, ℕ, zero, suc, ◌<◌}
use Rattle.std.proofs.Common.{sym, ap, subst, ◌∙◌, arith}
use Rattle.refusals.specs.declared.Refusal.{Refusal}
use Rattle.refusals.specs.Numbers.{number_of}
use Rattle.refusals.proofs.NumberLaws.{number_pos}
use Rattle.refusals.specs.Outcomes.{Outcome, gives, refuses, Cause, outcome, values_or}
use Rattle.share_sheet_c.specs.Status.{status_of, ByStatus, outcome_of_status}

module _ {A : Type 0} where
  -- a status above 0 stands for refused, whatever stands in the lent places
  pub status_refused : (k : ℕ) (values : A) → 0 < k → outcome_of_status k values ≡ refuses k
  status_refused zero values h = absurd (omega arith)
  status_refused (suc k) values h = refl

  -- THE STATUS DECIDES: a call's status, with its values in the lent places, is the call's outcome
  pub status_outcome : (causes : List Cause) (values : A) → outcome_of_status (status_of (outcome causes values)) values ≡ outcome causes values
  status_outcome [] values = refl
  status_outcome (c ∷ cs) values = go c.test (status_outcome cs values)
    where
      go : (t : Bool) → outcome_of_status (status_of (outcome cs values)) values ≡ outcome cs values
          → outcome_of_status (status_of (cond t (refuses (number_of c.refusal)) (outcome cs values))) values ≡ cond t (refuses (number_of c.refusal)) (outcome cs values)
      go true h = status_refused (number_of c.refusal) values (number_pos c.refusal)
      go false h = h

  -- what a call answers is o, as is due: it gives these values
  pub accepted : {o answer : Outcome A} {values x : A} → answer ≡ gives values → answer ≡ o → ByStatus o x 0 values
  accepted {x = x} answers due =
      let e = sym answers ∙ due in
      record { status = ap status_of e; values = ap (values_or x) e }

  -- or it refuses with the number k
  pub refused : {o answer : Outcome A} {k r : ℕ} {x : A} → answer ≡ refuses k → r ≡ k → answer ≡ o → ByStatus o x r x
  refused {x = x} answers n due =
      let e = sym answers ∙ due in
      record { status = n ∙ ap status_of e; values = ap (values_or x) e }

  -- what holds of a refusal holds of its status, whatever stands in the lent places
  pub status_keeps : (P : Outcome A → Type 0) (cause : Refusal) (values : A) {answer : Outcome A} {r : ℕ} → answer ≡ refuses (number_of cause) → r ≡ number_of cause → P answer → P (outcome_of_status r values)
  status_keeps P cause values answers n p = rw (n, status_refused (number_of cause) values (number_pos cause)) (subst P answers p)
