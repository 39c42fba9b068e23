-- Where a number belongs in a row that ascends.
use Rattle.std.proofs.Common.{false, List, [], ◌∷◌, ⊎_elim, ◌≡◌, refl, sym, ap, subst, ◌∙◌, ℕ, zero, suc, ◌+◌, ◌≤◌, ◌<◌, zero-le, suc-le-suc, not-suc-le-zero, le_of_suc-le-suc, eq-or-lt_of_le, arith, leb-true, leb-false, leb, length, take, length-take-le}
use Rattle.lists.specs.Lists.{◌∈◌, has, at, Ascending, put}
use Rattle.lists.proofs.Tests.{split}
use Rattle.lists.proofs.Loops.{last_or}
use Rattle.lists.proofs.Counts.{in_has, none_has}
use Rattle.lists.proofs.Places.{at_take, in_at, count_none}
use Rattle.sorted_row.specs.declared.Inserted.TheVariants.{Added, Present, Full}
use Rattle.sorted_row.specs.Insertion.{insert, RowAfter}
use Rattle.sorted_row.proofs.InsertionLaws.{insert-cases}
use Rattle.sorted_row.specs.Shifting.{Place, insert_at}

-- x belongs right behind the last number that is below it, since those before that one are below x too
pub behind_last : {x last : ℕ} {l : List ℕ} → Ascending l → last < length l → at l last < x
    → ((k : ℕ) → last < k → k < length l → x ≤ at l k) → Place x l (last + 1)
behind_last {x} {last} {l} r b u high =
    record {
      within = omega arith;
      low = λ k a. let g : k < suc last = omega arith in ⊎_elim (λ q. rw q u) (λ g. omega (arith, r k last g b)) (last_or g);
      high = λ k a c. high k (omega arith) c;
    }

-- and at the front, where none is
pub at_front : {x : ℕ} {l : List ℕ} → ((k : ℕ) → k < length l → x ≤ at l k) → Place x l 0
at_front high = record { within = omega arith; low = λ k a. absurd (omega arith); high = λ k _ b. high k b }

-- x is not the number at its place
abbrev Absent : ℕ → List ℕ → ℕ → Type 0
Absent x l p = p < length l → at l p ≡ x → ⊥

-- then it is not in the row
has-not : (x : ℕ) (l : List ℕ) (p : ℕ) → Ascending l → Place x l p → Absent x l p → has x l ≡ false
has-not x l p r w a =
    none_has x l (count_none x l λ k g q.
    split (leb p k)
    (λ t. let u = leb-true p k t in
    ⊎_elim (λ e. a (omega arith) (ap (at l) e ∙ q)) (λ b. omega (arith, w.high p (omega arith) (omega arith), r p k b g)) (eq-or-lt_of_le u))
    (λ t. omega (arith, w.low k (leb-false p k t))))

place_tail : {x y : ℕ} {l : List ℕ} {p : ℕ} → Place x (y ∷ l) (suc p) → Place x l p
unfolding at
place_tail w =
    record {
      within = le_of_suc-le-suc w.within;
      low = λ k a. w.low (suc k) (suc-le-suc a);
      high = λ k a b. w.high (suc k) (suc-le-suc a) (suc-le-suc b);
    }

-- and inserting it puts it there
insert-at : (x : ℕ) (l : List ℕ) (p : ℕ) → Place x l p → Absent x l p → insert x l ≡ insert_at l p x
unfolding insert insert_at at
insert-at x [] zero w a = refl
insert-at x [] (suc p) w a = absurd (not-suc-le-zero w.within)
insert-at x (y ∷ l) zero w a =
    let g = w.high 0 zero-le (suc-le-suc zero-le) in
    insert-cases (λ m. m ≡ x ∷ y ∷ l) x y l (λ b. absurd (omega arith)) (λ e. absurd (a (suc-le-suc zero-le) e)) (λ _. refl)
insert-at x (y ∷ l) (suc p) w a =
    let g = w.low 0 (suc-le-suc zero-le) in
    insert-cases (λ m. m ≡ insert_at (y ∷ l) (suc p) x) x y l
    (λ _. ap (λ k. y ∷ k) (insert-at x l p (place_tail w) (λ b. a (suc-le-suc b))))
    (λ e. absurd (omega arith)) (λ b. absurd (omega arith))

-- the answers to an insertion into a row whose first `count` slots are taken
module _ (x count p : ℕ) (row : List ℕ) (h : count ≤ length row) where
  abbrev l : List ℕ
  l = take count row

  taken : length l ≡ count
  taken = length-take-le count row h

  pub is_present : p < count → at row p ≡ x → RowAfter Present x l row row
  is_present b e = (in_has x l (subst (λ y. y ∈ l) (at_take count row p b ∙ e) (in_at l p (omega (arith, taken)))), refl)

  -- where x belongs at place p, and is not there
  module _ (w : Place x l p) where
    pub in_taken : p ≤ count
    in_taken = omega (arith, w.within, taken)

    module _ (r : Ascending l) (a : p < count → at row p ≡ x → ⊥) where
      absent : Absent x l p
      absent b e = let g : p < count = omega (arith, taken) in a g (sym (at_take count row p g) ∙ e)

      pub is_full : length row ≤ count → RowAfter Full x l row row
      is_full g = (has-not x l p r w absent, omega (arith, taken), refl)

      pub is_added_lem : {row' : List ℕ} → count < length row → row' ≡ put row 0 (insert_at l p x) → RowAfter Added x l row row'
      is_added_lem g e = (has-not x l p r w absent, omega (arith, taken), e ∙ sym (ap (put row 0) (insert-at x l p w absent)))
