-- Laws of the first cause.
use Rattle.std.specs.Prelude.{Bool, true, false, cond, ◌||◌, List, [], ◌∷◌, ◌++◌, ◌≡◌, refl, ℕ, eqb}
use Rattle.std.proofs.Common.{true≢false, sym, ap, ◌∙◌, eq-eqb}
use Rattle.refusals.specs.Numbers.{number_of}
use Rattle.refusals.specs.Outcomes.{Outcome, gives, refuses, Cause, outcome, values_or}
use Rattle.refusals.specs.Causes.{NoneHolds, numbered, part_of}

abbrev given : {A : Type 0} → Outcome A → Bool
given (gives values) = true
given (refuses number) = false

abbrev number : {A : Type 0} → Outcome A → ℕ
number (gives values) = 0
number (refuses k) = k

-- no call does both
not_both : {A : Type 0} {w : A} {k : ℕ} → gives w ≡ refuses k → ⊥
not_both e = true≢false (ap given e)

-- where values are given no cause holds, and they are the call's
pub no_cause : {A : Type 0} (cs : List Cause) (values : A) {w : A} → outcome cs values ≡ gives w → NoneHolds cs × (w ≡ values)
no_cause [] values {w} e = (tt, sym (ap (values_or w) e))
no_cause (c ∷ cs) values {w} e = go c.test (no_cause cs values) e
  where
    go : (t : Bool) → (outcome cs values ≡ gives w → NoneHolds cs × (w ≡ values))
        → cond t (refuses (number_of c.refusal)) (outcome cs values) ≡ gives w → ((t ≡ false) × NoneHolds cs) × (w ≡ values)
    go true h q = absurd (not_both (sym q))
    go false h q = let z = h q in ((refl, z.0), z.1)

-- and where no cause holds they are given
pub none-gives : {A : Type 0} (cs : List Cause) (values : A) → NoneHolds cs → outcome cs values ≡ gives values
none-gives [] values h = refl
none-gives (c ∷ cs) values h = rw h.0 (none-gives cs values h.1)

pub none-numbered : (k : ℕ) (cs : List Cause) → NoneHolds cs → numbered k cs ≡ false
none-numbered k [] h = refl
none-numbered k (c ∷ cs) h = go (eqb (number_of c.refusal) k) (none-numbered k cs h.1)
  where
    go : (b : Bool) → numbered k cs ≡ false → cond b (c.test || numbered k cs) (numbered k cs) ≡ false
    go true e = rw h.0 e
    go false e = e

-- a call that is refused with a number has a cause of that number
pub refused_numbered : {A : Type 0} (k : ℕ) (cs : List Cause) (values : A) → outcome cs values ≡ refuses k → numbered k cs ≡ true
refused_numbered k [] values e = absurd (not_both e)
refused_numbered k (c ∷ cs) values e = go c.test (refused_numbered k cs values) e
  where
    either : (b : Bool) {x : Bool} → x ≡ true → cond b x x ≡ true
    either true e = e
    either false e = e

    go : (t : Bool) → (outcome cs values ≡ refuses k → numbered k cs ≡ true) → cond t (refuses (number_of c.refusal)) (outcome cs values) ≡ refuses k
        → cond (eqb (number_of c.refusal) k) (t || numbered k cs) (numbered k cs) ≡ true
    go true h q = rw (eq-eqb (number_of c.refusal) k (ap number q))
    go false h q = either (eqb (number_of c.refusal) k) (h q)

-- ---- two lists of causes, one behind the other

pub none_both : (cs ds : List Cause) → NoneHolds (cs ++ ds) → NoneHolds cs × NoneHolds ds
none_both [] ds h = (tt, h)
none_both (c ∷ cs) ds h = let z = none_both cs ds h.1 in ((h.0, z.0), z.1)

module _ {A B : Type 0} where
  -- what the first gives is left to the second to decide
  abbrev or_else : Outcome A → Outcome B → Outcome B
  or_else (gives values) o = o
  or_else (refuses number) o = refuses number

  or_under : (t : Bool) (k : ℕ) (x : Outcome A) (y : Outcome B) → cond t (refuses k) (or_else x y) ≡ or_else (cond t (refuses k) x) y
  or_under true k x y = refl
  or_under false k x y = refl

  module _ (ds : List Cause) (u : A) (v : B) where
    joined : (cs : List Cause) → outcome (cs ++ ds) v ≡ or_else (outcome cs u) (outcome ds v)
    joined [] = refl
    joined (c ∷ cs) =
        ap (cond c.test (refuses (number_of c.refusal))) (joined cs)
        ∙ or_under c.test (number_of c.refusal) (outcome cs u) (outcome ds v)

    -- where the first refuses, the two do
    pub first-refuses : (cs : List Cause) {k : ℕ} → outcome cs u ≡ refuses k → outcome (cs ++ ds) v ≡ refuses k
    first-refuses cs e = joined cs ∙ ap (λ (x : Outcome A). or_else x (outcome ds v)) e

    -- where it gives values, the second decides
    pub then_decides : (cs : List Cause) {w : A} → outcome cs u ≡ gives w → outcome (cs ++ ds) v ≡ outcome ds v
    then_decides cs e = joined cs ∙ ap (λ (x : Outcome A). or_else x (outcome ds v)) e

-- ---- a call that gives a part of another's values, and is refused as that one is

module _ {A C : Type 0} (part : A → C) where
  part_under : (t : Bool) (k : ℕ) (o : Outcome A) → part_of part (cond t (refuses k) o) ≡ cond t (refuses k) (part_of part o)
  part_under true k o = refl
  part_under false k o = refl

  pub part-answered : (cs : List Cause) (values : A) {o : Outcome A} → o ≡ outcome cs values → part_of part o ≡ outcome cs (part values)
  part-answered [] values e = ap (part_of part) e
  part-answered (c ∷ cs) values e =
      let k = number_of c.refusal in
      ap (part_of part) e ∙ part_under c.test k (outcome cs values) ∙ ap (cond c.test (refuses k)) (part-answered cs values refl)
