-- Laws of a list's entries by their places.
use Rattle.std.specs.Prelude.{cond, List, [], ◌∷◌, ◌++◌, ◌≡◌, refl, ℕ, zero, suc, ◌+◌, ◌-◌, ◌≤◌, ◌<◌, eqb, ltb, leb, length, set, replicate, take, drop}
use Rattle.std.proofs.Common.{sym, ap, ap₂, ◌∙◌, zero-lt-suc, not-suc-le-zero, add-one, arith, length-take, length-drop, take-append-drop, get_or-set_same, get_or-set_other, take-suc, get_or-take, get_or-drop, get_or-append-add, take_at, drop_at, take-take, take-add, drop-drop, eqb-true, ltb-true, ltb-false, leb-true, leb-false, lt-ltb, le-ltb, ne_eqb}
use Rattle.std.proofs.Math.Nat.{sub-zero, zero-sub, suc-sub-suc}
use Rattle.std.proofs.Math.ListN.{get_or-append}
use Rattle.std.proofs.lemmas.List.{take-append-le, drop-append-le}
use Rattle.std.proofs.Math.Seq.{take-nil}
use Rattle.std.proofs.lemmas.Bool.{eqb-false}
use Rattle.lists.specs.Lists.{indicator, count_by, count, ◌∈◌, has, Once, at, part, Ascending}
use Rattle.lists.proofs.Tests.{split}
use Rattle.lists.proofs.Sums.{sum_by_cong, sum_by-add, sum_by-zero}
use Rattle.lists.proofs.Counts.{has_in, has-none, in_first, sum_by_cong_in}

pub at-zeros : (n k : ℕ) → at (replicate n 0) k ≡ 0
unfolding at
at-zeros zero k = refl
at-zeros (suc n) zero = refl
at-zeros (suc n) (suc k) = at-zeros n k

-- entry k after a store at place i
pub at_set : (l : List ℕ) (i x k : ℕ) → i < length l → at (set l i x) k ≡ cond (eqb k i) x (at l k)
unfolding at
at_set l i x k h =
    split (eqb k i)
    (λ e. let q : k ≡ i = eqb-true k i e in rw e (rw q (get_or-set_same l i x 0 h)))
    (λ e. rw e (get_or-set_other l i k x 0 (eqb-false k i e)))

pub at_take : (n : ℕ) (l : List ℕ) (k : ℕ) → k < n → at (take n l) k ≡ at l k
unfolding at
at_take n l k h = get_or-take n l k 0 h

pub take_next : (k : ℕ) (l : List ℕ) → k < length l → take (k + 1) l ≡ take k l ++ (at l k ∷ [])
unfolding at
take_next k l h = rw add-one (take-suc l k 0 h)

pub at-append : (l m : List ℕ) (k : ℕ) → k < length l → at (l ++ m) k ≡ at l k
unfolding at
at-append l m k h = get_or-append l m 0 k h

pub at-behind : (l m : List ℕ) (k : ℕ) → at (l ++ m) (length l + k) ≡ at m k
unfolding at
at-behind l m k = get_or-append-add l m k 0

pub at_drop : (n : ℕ) (l : List ℕ) (k : ℕ) → at (drop n l) k ≡ at l (n + k)
unfolding at
at_drop n l k = get_or-drop n l k 0

-- ---- parts

pub part-from : (a k : ℕ) (l : List ℕ) → take k (drop a l) ≡ part a (a + k) l
part-from a k l = let many : k ≡ a + k - a = omega arith in ap (λ n. take n (drop a l)) many

pub length_part : (a e : ℕ) (l : List ℕ) → e ≤ length l → length (part a e l) ≡ e - a
length_part a e l h = simp (length-take, length-drop) (omega arith)

pub at_part : (a e : ℕ) (l : List ℕ) (k : ℕ) → k < e - a → at (part a e l) k ≡ at l (a + k)
unfolding at
at_part a e l k h = rw (get_or-take, get_or-drop)

-- what stands behind a part does not matter to it
pub part-append : (a e : ℕ) (l m : List ℕ) → e ≤ length l → part a e (l ++ m) ≡ part a e l
part-append a e l m h =
    split (leb a (length l))
    (λ t. let g = leb-true a (length l) t in
    ap (take (e - a)) (drop-append-le a l m g) ∙ take-append-le (e - a) (drop a l) m (omega (arith, length-drop a l)))
    (λ t. let g = leb-false a (length l) t in let z : e - a ≡ 0 = omega arith in rw z)

-- a part of a part
drop-take : (a n : ℕ) (l : List ℕ) → drop a (take n l) ≡ take (n - a) (drop a l)
drop-take zero n l = ap (λ m. take m l) (sym (sub-zero n))
drop-take (suc a) zero l = ap (λ m. take m (drop (suc a) l)) (sym (zero-sub (suc a)))
drop-take (suc a) (suc n) [] = sym (take-nil (suc n - suc a))
drop-take (suc a) (suc n) (x ∷ l) = drop-take a n l ∙ ap (λ m. take m (drop a l)) (sym (suc-sub-suc n a))

pub part-part : (a e f g : ℕ) (l : List ℕ) → f + e ≤ g → part a e (part f g l) ≡ part (f + a) (f + e) l
part-part a e f g l h =
    let same : e - a ≡ f + e - (f + a) = omega arith in
    ap (take (e - a)) (drop-take a (g - f) (drop f l) ∙ ap (take (g - f - a)) (drop-drop a f l))
    ∙ take-take (e - a) (g - f - a) (drop (f + a) l) (omega arith)
    ∙ ap (λ m. take m (drop (f + a) l)) same

-- what stands between f and r
pub part_between : (f m r : List ℕ) {a e : ℕ} → a ≡ length f → e ≡ a + length m → part a e (f ++ (m ++ r)) ≡ m
part_between f m r {a} {e} p q =
    let z : e - a ≡ length m = omega arith in
    ap (take (e - a)) (drop_at f (m ++ r) a (sym p)) ∙ take_at m r (e - a) (sym z)

-- what stands before a part, and the part
pub take_part : (a e : ℕ) (l : List ℕ) → a ≤ e → take a l ++ part a e l ≡ take e l
take_part a e l h = let q : a + (e - a) ≡ e = omega arith in sym (take-add a (e - a) l) ∙ ap (λ k. take k l) q

-- a part, and what stands behind it
pub part-drop : (a e : ℕ) (l : List ℕ) → a ≤ e → part a e l ++ drop e l ≡ drop a l
part-drop a e l h =
    let q : a + (e - a) ≡ e = omega arith in
    ap (λ m. part a e l ++ m) (sym (drop-drop (e - a) a l ∙ ap (λ k. drop k l) q)) ∙ take-append-drop (e - a) (drop a l)

-- ---- members

pub in_at : (l : List ℕ) (k : ℕ) → k < length l → at l k ∈ l
unfolding at
in_at [] k h = absurd (omega arith)
in_at (x ∷ l) zero h = in_first x l
in_at (x ∷ l) (suc k) h = let z = in_at l k (omega arith) in omega arith

pub at_in : (x : ℕ) (l : List ℕ) → x ∈ l → (k : ℕ) × (k < length l) × (at l k ≡ x)
unfolding at
at_in x [] h = absurd (omega arith)
at_in x (y ∷ l) h =
    split (eqb x y)
    (λ e. (0, zero-lt-suc (length l), sym (eqb-true x y e)))
    (λ e. let w = at_in x l (omega (arith, ap indicator e)) in (suc w.0, omega (arith, w.1), w.2))

pub count_none : (x : ℕ) (l : List ℕ) → ((k : ℕ) → k < length l → at l k ≡ x → ⊥) → count x l ≡ 0
count_none x l h =
    split (has x l)
    (λ e. let w = at_in x l (has_in x l e) in absurd (h w.0 w.1 w.2))
    (has-none x l)

-- in a list that ascends each member stands once
pub ascending_once : (l : List ℕ) → Ascending l → Once l
unfolding at
ascending_once [] h x = omega arith
ascending_once (y ∷ l) h x =
    split (eqb x y)
    (λ e. omega (arith, ap indicator e, count_none x l (λ k g q. let z = h 0 (suc k) (zero-lt-suc k) (omega arith) in omega (arith, eqb-true x y e))))
    (λ e. omega (arith, ap indicator e, ascending_once l (λ j k g w. h (suc j) (suc k) (omega arith) (omega arith)) x))

-- one number more is below i + 1 than below i: i itself
under_next : (i y : ℕ) → indicator (ltb y (i + 1)) ≡ indicator (ltb y i) + indicator (eqb i y)
under_next i y =
    split (ltb y i)
    (λ a. let g = ltb-true y i a in rw (a, lt-ltb y (i + 1) (omega arith), ne_eqb i y (omega arith)))
    (λ a. let g = ltb-false y i a in split (eqb i y)
    (λ b. let q = eqb-true i y b in rw (a, b, lt-ltb y (i + 1) (omega arith)))
    (λ b. let d : i ≡ y → ⊥ = eqb-false i y b in rw (a, b, le-ltb y (i + 1) (omega (arith, d)))))

pub count_under_next : (i : ℕ) (l : List ℕ) → count_by (λ y. ltb y (i + 1)) l ≡ count_by (λ y. ltb y i) l + count i l
count_under_next i l = sum_by_cong (under_next i) l ∙ sum_by-add (λ y. indicator (ltb y i)) (λ y. indicator (eqb i y)) l

-- a list that ascends: its first entry is below the others, which ascend too
module _ (y : ℕ) (l : List ℕ) (h : Ascending (y ∷ l)) where
  pub ascends_above : (z : ℕ) → z ∈ l → y < z
  unfolding at
  ascends_above z i = let w = at_in z l i in omega (arith, h 0 (suc w.0) (zero-lt-suc w.0) (omega (arith, w.1)), w.2)

  pub ascends_tail : Ascending l
  unfolding at
  ascends_tail j k a b = h (suc j) (suc k) (omega arith) (omega arith)

  is_first : (x : ℕ) → x ∈ (y ∷ l) → x ≤ y → y ≡ x
  is_first x m g =
      split (eqb x y) (λ e. sym (eqb-true x y e)) (λ e. absurd (let z = ascends_above x (omega (arith, ap indicator e)) in omega arith))

  none_under : (x : ℕ) → x ≤ y → count_by (λ z. ltb z x) l ≡ 0
  none_under x g = sum_by_cong_in l (λ z i. let w = ascends_above z i in ap indicator (le-ltb z x (omega arith))) ∙ sum_by-zero l

pub ascends_cons : (y : ℕ) (l : List ℕ) → ((z : ℕ) → z ∈ l → y < z) → Ascending l → Ascending (y ∷ l)
unfolding at
ascends_cons y l f h j zero a b = absurd (not-suc-le-zero a)
ascends_cons y l f h zero (suc k) a b = f (at l k) (in_at l k (omega arith))
ascends_cons y l f h (suc j) (suc k) a b = h j k (omega arith) (omega arith)

-- lists that ascend and have the same members are the same
pub ascending_same : (l m : List ℕ) → Ascending l → Ascending m → ((x : ℕ) → count x l ≡ count x m) → l ≡ m
ascending_same [] [] f g h = refl
ascending_same [] (y ∷ m) f g h = absurd (omega (arith, h y, in_first y m))
ascending_same (x ∷ l) [] f g h = absurd (omega (arith, h x, in_first x l))
ascending_same (x ∷ l) (y ∷ m) f g h =
    let e : x ≡ y =
    split (leb x y)
    (λ t. sym (is_first y m g x (omega (arith, h x, in_first x l)) (leb-true x y t)))
    (λ t. let z = leb-false x y t in is_first x l f y (omega (arith, h y, in_first y m)) (omega arith)) in
    ap₂ ◌∷◌ e (ascending_same l m (ascends_tail x l f) (ascends_tail y m g) (λ z. omega (arith, h z, ap (λ v. indicator (eqb z v)) e)))

-- and a member stands behind just those below it
pub ascending_place : (x : ℕ) (l : List ℕ) → Ascending l → x ∈ l
    → (count_by (λ y. ltb y x) l < length l) × (at l (count_by (λ y. ltb y x) l) ≡ x)
unfolding at
ascending_place x [] h m = absurd (omega arith)
ascending_place x (y ∷ l) h m =
    split (ltb y x)
    (λ e. let g = ltb-true y x e in
    let w = ascending_place x l (ascends_tail y l h) (omega (arith, ap indicator (ne_eqb x y (omega arith)))) in
    let c = count_by (λ z. ltb z x) l in
    let q : 1 + c ≡ suc c = omega arith in
    rw e (omega (arith, w.0), ap (at (y ∷ l)) q ∙ w.1))
    (λ e. let g = ltb-false y x e in rw (e, none_under y l h x g) (omega arith, is_first y l h x m g))
