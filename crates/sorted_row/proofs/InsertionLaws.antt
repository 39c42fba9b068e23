-- Laws of insertion into ascending numbers.
use Rattle.std.specs.Prelude.{Bool, true, false, cond, ◌&&◌, ◌||◌, List, [], ◌∷◌, ◌≡◌, refl, ℕ, ◌+◌, ◌<◌, eqb, ltb, length}
use Rattle.std.proofs.Math.Bool.{or-true, or-false, or_assoc, or_comm}
use Rattle.std.proofs.Common.{⊎_elim, sym, ap, ◌∙◌, arith, eqb-true, ltb-true, ltb-false, eq-eqb, ne_eqb}
use Rattle.std.proofs.lemmas.Bool.{eqb-false}
use Rattle.lists.specs.Lists.{indicator, count, has, Ascending}
use Rattle.lists.specs.Below.{list_below}
use Rattle.lists.proofs.Tests.{split, or_cases, eqb_comm}
use Rattle.lists.proofs.Counts.{in_has, has_in, in_first, has-none, has-cons, has_once}
use Rattle.lists.proofs.Places.{ascending_once, ascends_above, ascends_tail, ascends_cons, ascending_same}
use Rattle.lists.proofs.ListBelow.{count-list_below, list_below_ascends, list_below-same}
use Rattle.sorted_row.specs.Insertion.{insert}

-- the first number is below x, or is x, or is above it
pub insert-cases : (P : List ℕ → Type 0) (x y : ℕ) (l : List ℕ)
    → (y < x → P (y ∷ insert x l)) → (y ≡ x → P (y ∷ l)) → (x < y → P (x ∷ y ∷ l)) → P (insert x (y ∷ l))
unfolding insert
insert-cases P x y l past here before =
    split (ltb y x) (λ t. rw t (past (ltb-true y x t)))
    (λ t. let g = ltb-false y x t in split (eqb y x)
    (λ u. rw (t, u) (here (eqb-true y x u)))
    (λ u. let d : y ≡ x → ⊥ = eqb-false y x u in rw (t, u) (before (omega (arith, d)))))

-- x is added, and nothing else
pub has-insert : (y x : ℕ) (l : List ℕ) → has y (insert x l) ≡ (has y l || eqb x y)
unfolding insert
has-insert y x [] = has-cons y x [] ∙ or-false (eqb y x) ∙ eqb_comm y x
has-insert y x (z ∷ l) =
    insert-cases (λ m. has y m ≡ (has y (z ∷ l) || eqb x y)) x z l
    (λ _. has-cons y z (insert x l) ∙ ap (λ b. eqb y z || b) (has-insert y x l) ∙ sym (or_assoc (eqb y z) (has y l) (eqb x y)) ∙ ap (λ b. b || eqb x y) (sym (has-cons y z l)))
    (λ e. split (eqb x y)
    (λ t. let q : z ≡ y = e ∙ eqb-true x y t in rw (t, or-true (has y (z ∷ l))) (rw q (in_has y (y ∷ l) (in_first y l))))
    (λ t. rw (t, or-false (has y (z ∷ l)))))
    (λ _. has-cons y x (z ∷ l) ∙ or_comm (eqb y x) (has y (z ∷ l)) ∙ ap (λ b. has y (z ∷ l) || b) (eqb_comm y x))

-- a number that is not there makes the row longer by one
pub insert-length : (x : ℕ) (l : List ℕ) → has x l ≡ false → length (insert x l) ≡ length l + 1
unfolding insert
insert-length x l h = longer l (has-none x l h)
  where
    longer : (l : List ℕ) → count x l ≡ 0 → length (insert x l) ≡ length l + 1
    longer [] h = refl
    longer (y ∷ l) h =
        insert-cases (λ m. length m ≡ length (y ∷ l) + 1) x y l
        (λ _. omega (arith, longer l (omega arith)))
        (λ e. absurd (omega (arith, ap indicator (eq-eqb x y (sym e)))))
        (λ _. omega arith)

pub insert_ascends : (x : ℕ) (l : List ℕ) → Ascending l → Ascending (insert x l)
unfolding insert
insert_ascends x [] h = ascends_cons x [] (λ z i. absurd (omega arith)) h
insert_ascends x (y ∷ l) h =
    insert-cases Ascending x y l
    (λ g. ascends_cons y (insert x l)
    (λ z i. ⊎_elim (λ t. ascends_above y l h z (has_in z l t)) (λ t. omega (arith, eqb-true x z t)) (or_cases (has z l) (eqb x z) (sym (has-insert z x l) ∙ in_has z (insert x l) i)))
    (insert_ascends x l (ascends_tail y l h)))
    (λ _. h)
    (λ g. ascends_cons x (y ∷ l)
    (λ z i. split (eqb z y) (λ t. omega (arith, eqb-true z y t)) (λ t. omega (arith, ascends_above y l h z (omega (arith, ap indicator t)))))
    h)

-- inserting x into the numbers that pass: those that pass or are x
pub insert-list_below : (p : ℕ → Bool) (x n : ℕ) → x < n → insert x (list_below n p) ≡ list_below n (λ j. p j || eqb x j)
insert-list_below p x n h =
    ascending_same _ _ ascends (list_below_ascends n _)
    (λ y. omega (arith, has_once y (insert x (list_below n p)) (ascending_once _ ascends) 1)
    ∙ ap indicator (has-insert y x (list_below n p) ∙ agree y)
    ∙ sym (count-list_below y n (λ j. p j || eqb x j)))
  where
    ascends : Ascending (insert x (list_below n p))
    ascends = insert_ascends x _ (list_below_ascends n p)

    agree : (y : ℕ) → (has y (list_below n p) || eqb x y) ≡ (ltb y n && (p y || eqb x y))
    agree y =
        rw (count-list_below y n p)
        (split (ltb y n)
        (λ t. rw t (split (p y) (λ u. rw u) (λ u. rw u)))
        (λ t. let g = ltb-false y n t in rw (t, ne_eqb x y (omega arith))))

-- the same where a test says whether to insert
pub insert-list_below-if : (p : ℕ → Bool) (x : ℕ) (t : Bool) (n : ℕ) → x < n
    → cond t (insert x (list_below n p)) (list_below n p) ≡ list_below n (λ j. p j || (t && eqb x j))
insert-list_below-if p x true n h = insert-list_below p x n h
insert-list_below-if p x false n h = list_below-same _ _ n (λ i l. sym (or-false (p i)))
