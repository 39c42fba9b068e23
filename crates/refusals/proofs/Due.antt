-- How a call's causes decide, one after another: what is answered, and what lent entries hold after it.
use Rattle.std.specs.Prelude.{Bool, true, false, List, [], ◌∷◌, ◌++◌, ◌≡◌, refl, ℕ, ◌≤◌, ◌<◌, ltb}
use Rattle.std.proofs.Common.{sym, ap, ◌∙◌, arith, le-ltb, lt-ltb}
use Rattle.refusals.specs.declared.Refusal.{Refusal}
use Rattle.refusals.specs.Numbers.{number_of}
use Rattle.refusals.specs.Outcomes.{Outcome, gives, refuses, Cause, ◌⇒◌, outcome, values_or}
use Rattle.refusals.proofs.Causes.{first-refuses, then_decides}
use Rattle.refusals.specs.Due.{Answered, Due}

-- ---- as contracts say it

pub both : {A B : Type 0} {cs : List Cause} {values : A} {s x : B} {o : Outcome A} {y : B} → Due cs values s x o y
    → (o ≡ outcome cs values) × (y ≡ values_or x (outcome cs s))
both d = (d.answered, d.after)

module _ {A : Type 0} (cs : List Cause) (values : A) {o : Outcome A} where
  pub answer : Answered cs values o → o ≡ outcome cs values
  answer d = d.answered

  pub due : o ≡ outcome cs values → Answered cs values o
  due e = record { answered = e; after = refl }

-- ---- one cause after another

module _ {A B : Type 0} {values : A} {s x : B} where
  -- no cause is left
  pub accept : {v : A} {y : B} → v ≡ values → y ≡ s → Due [] values s x (gives v) y
  accept e f = record { answered = ap gives e; after = f }

  -- a cause that holds refuses, and the entries are kept; one that does not is passed over
  module _ {t : Bool} {r : Refusal} {cs : List Cause} where
    pub stop : t ≡ true → Due ((t ⇒ r) ∷ cs) values s x (refuses (number_of r)) x
    stop e = record { answered = rw e; after = rw e }

    pub pass : {o : Outcome A} {y : B} → t ≡ false → Due cs values s x o y → Due ((t ⇒ r) ∷ cs) values s x o y
    pass e d = record { answered = rw e d.answered; after = rw e d.after }

  -- a cause that tests whether a number is below another; code read them into m and n
  module _ {r : Refusal} {cs : List Cause} {a b m n : ℕ} (e : m ≡ a) (f : n ≡ b) where
    pub below : m < n → Due ((ltb a b ⇒ r) ∷ cs) values s x (refuses (number_of r)) x
    below h = stop (lt-ltb a b (omega arith))

    pub not-below : {o : Outcome A} {y : B} → n ≤ m → Due cs values s x o y → Due ((ltb a b ⇒ r) ∷ cs) values s x o y
    not-below h d = pass (le-ltb a b (omega arith)) d

  -- the causes of a stage, then others: what the stage refuses is refused; where it gives a value, the others decide
  module _ {C : Type 0} (cs : List Cause) (u : C) where
    pub stage_stop : (ds : List Cause) {k : ℕ} → refuses k ≡ outcome cs u → Due (cs ++ ds) values s x (refuses k) x
    stage_stop ds e =
        record { answered = sym (first-refuses ds u values cs (sym e)); after = sym (ap (values_or x) (first-refuses ds u s cs (sym e))) }

    pub stage_pass : {ds : List Cause} {w : C} {o : Outcome A} {y : B} → gives w ≡ outcome cs u → Due ds values s x o y → Due (cs ++ ds) values s x o y
    stage_pass {ds} e d =
        record {
          answered = d.answered ∙ sym (then_decides ds u values cs (sym e));
          after = d.after ∙ sym (ap (values_or x) (then_decides ds u s cs (sym e)));
        }
