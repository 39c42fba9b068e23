-- Laws of lists without some of their members.
use Rattle.std.specs.Prelude.{not, ◌&&◌, List, [], ◌∷◌, ◌++◌, ◌≡◌, refl, ℕ, ◌≤◌, eqb, length}
use Rattle.std.proofs.Common.{ap, arith}
use Rattle.lists.specs.Lists.{◌∈◌, has, without, Ascending}
use Rattle.lists.proofs.Tests.{split}
use Rattle.lists.proofs.Counts.{has_in, has-none, in_has, none_has, count-without}
use Rattle.lists.proofs.Places.{ascends_above, ascends_tail, ascends_cons}

pub without-none : (l : List ℕ) → without [] l ≡ l
without-none [] = refl
without-none (y ∷ l) = ap (λ m. y ∷ m) (without-none l)

pub without-append : (s l m : List ℕ) → without s (l ++ m) ≡ without s l ++ without s m
without-append s [] m = refl
without-append s (y ∷ l) m =
    split (has y s)
    (λ e. rw e (without-append s l m))
    (λ e. rw e (ap (λ r. y ∷ r) (without-append s l m)))

pub has_one : (y x : ℕ) → has y (x ∷ []) ≡ eqb y x
has_one y x = split (eqb y x) (λ e. rw e) (λ e. rw e)

pub has-without : (x : ℕ) (s l : List ℕ) → has x (without s l) ≡ (not (has x s) && has x l)
has-without x s l =
    split (has x s)
    (λ e. rw e (none_has x (without s l) (rw e at (count-without x s l))))
    (λ e. rw e (split (has x l)
    (λ h. rw h (in_has x (without s l) (omega (arith, rw e at (count-without x s l), has_in x l h))))
    (λ h. rw h (none_has x (without s l) (omega (arith, rw e at (count-without x s l), has-none x l h))))))

pub of_without : (s l : List ℕ) (x : ℕ) → x ∈ without s l → x ∈ l
of_without s l x m =
    split (has x s)
    (λ e. absurd (omega (arith, rw e at (count-without x s l))))
    (λ e. omega (arith, rw e at (count-without x s l)))

pub length-without-le : (s l : List ℕ) → length (without s l) ≤ length l
length-without-le s [] = omega arith
length-without-le s (y ∷ l) =
    split (has y s) (λ e. rw e (omega (arith, length-without-le s l))) (λ e. rw e (omega (arith, length-without-le s l)))

pub ascends_without : (s l : List ℕ) → Ascending l → Ascending (without s l)
ascends_without s [] h = h
ascends_without s (y ∷ l) h =
    let r = ascends_without s l (ascends_tail y l h) in
    split (has y s)
    (λ e. rw e r)
    (λ e. rw e (ascends_cons y (without s l) (λ z m. ascends_above y l h z (of_without s l z m)) r))
