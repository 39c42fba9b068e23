-- The first cause decides, and what answers stand for, computed.
use Rattle.std.specs.Prelude.{true, false, [], ◌∷◌, ◌≡◌, refl, ℕ, Result, Ok, Err}
use Rattle.refusals.specs.declared.Refusal.{Refusal}
use Rattle.refusals.specs.declared.Refusal.TheVariants.{NoNetwork, NoSuchBus, TextTooShort}
use Rattle.refusals.specs.Outcomes.{gives, refuses, outcome_of, ◌⇒◌, outcome}

none-holds : outcome {A = ℕ} ((false ⇒ NoNetwork) ∷ (false ⇒ NoSuchBus) ∷ []) 7 ≡ gives 7
none-holds = refl

first_of_two : outcome {A = ℕ} ((false ⇒ NoNetwork) ∷ (true ⇒ NoSuchBus) ∷ (true ⇒ TextTooShort) ∷ []) 7 ≡ refuses 13
first_of_two = refl

earlier_wins : outcome {A = ℕ} ((true ⇒ NoNetwork) ∷ (true ⇒ NoSuchBus) ∷ []) 7 ≡ refuses 11
earlier_wins = refl

abbrev written : Result ℕ Refusal
written = Ok 7

abbrev refused : Result ℕ Refusal
refused = Err TextTooShort

bytes_written : (outcome_of written ≡ gives 7) × (outcome_of refused ≡ refuses 14)
bytes_written = (refl, refl)
