-- Laws of the numbers below a bound that pass a test: exactly those, each once, ascending.
use Rattle.std.specs.Prelude.{Bool, true, false, cond, ◌&&◌, ◌||◌, List, [], ◌∷◌, ◌++◌, ◌≡◌, refl, ℕ, zero, suc, ◌+◌, ◌*◌, ◌<◌, eqb, ltb, length}
use Rattle.std.proofs.Math.Bool.{or-false, and-false}
use Rattle.std.proofs.Common.{append-nil, ⊎_elim, sym, ap, ap₂, ◌∙◌, not-suc-le-zero, mul_comm, arith, length-append, ltb-true, lt-ltb, eqb-true}
use Rattle.std.proofs.Math.ListN.{get_or-append}
use Rattle.std.proofs.lemmas.List.{get_or_at}
use Rattle.lists.specs.Lists.{indicator, count, ◌∈◌, has, at, Ascending}
use Rattle.lists.specs.Below.{count_below, join_below, list_below}
use Rattle.lists.proofs.Tests.{split, passes, fails, and_left, and_right, eqb_comm}
use Rattle.lists.proofs.Sums.{indicator-and}
use Rattle.lists.proofs.Counts.{has_in, has_once, count-append}
use Rattle.lists.proofs.Places.{in_at, ascending_once, ascending_same}
use Rattle.lists.proofs.Loops.{last_or}
use Rattle.lists.proofs.SumsBelow.{sum_by-join_below, sum_below-same, sum_below_single}
use Rattle.lists.proofs.JoinBelow.{length-join_below, join_below-same, join_below-append}

pub length-list_below : (n : ℕ) (p : ℕ → Bool) → length (list_below n p) ≡ count_below n p
unfolding list_below
length-list_below n p = length-join_below n (λ i. cond (p i) (i ∷ []) []) ∙ sum_below-same _ _ n (λ i l. split (p i) (λ e. rw e) (λ e. rw e))

pub list_below-same : (p q : ℕ → Bool) (n : ℕ) → ((i : ℕ) → i < n → p i ≡ q i) → list_below n p ≡ list_below n q
unfolding list_below
list_below-same p q n h = join_below-same _ _ n (λ i l. ap (λ b. cond b (i ∷ []) []) (h i l))

pub list_below-none : (n : ℕ) → list_below n (λ i. false) ≡ []
unfolding list_below join_below
list_below-none zero = refl
list_below-none (suc n) = append-nil (list_below n (λ i. false)) ∙ list_below-none n

pub count-list_below : (x n : ℕ) (p : ℕ → Bool) → count x (list_below n p) ≡ indicator (ltb x n && p x)
unfolding list_below
count-list_below x n p =
    sum_by-join_below (λ y. indicator (eqb x y)) n (λ i. cond (p i) (i ∷ []) [])
    ∙ sum_below-same _ (λ i. indicator (p i) * indicator (eqb x i)) n (λ i l. split (p i) (λ e. rw e (omega arith)) (λ e. rw e (omega arith)))
    ∙ sum_below_single (λ i. indicator (p i)) x n
    ∙ mul_comm (indicator (p x)) (indicator (ltb x n))
    ∙ sym (indicator-and (ltb x n) (p x))

pub has-list_below : {x n : ℕ} (p : ℕ → Bool) → x < n → has x (list_below n p) ≡ p x
has-list_below {x} {n} p l = rw (count-list_below x n p, lt-ltb x n l) (split (p x) (λ e. rw e) (λ e. rw e))

pub of_list_below : (n : ℕ) (p : ℕ → Bool) (x : ℕ) → x ∈ list_below n p → (x < n) × (p x ≡ true)
of_list_below n p x i =
    let c : indicator (ltb x n && p x) ≡ count x (list_below n p) = sym (count-list_below x n p) in
    let t : (ltb x n && p x) ≡ true = passes (ltb x n && p x) (λ f. omega (arith, c, ap indicator f)) in
    (ltb-true x n (and_left (ltb x n) (p x) t), and_right (ltb x n) (p x) t)

pub list_below_in : (n : ℕ) (p : ℕ → Bool) (k : ℕ) → k < length (list_below n p) → (at (list_below n p) k < n) × (p (at (list_below n p) k) ≡ true)
list_below_in n p k h = of_list_below n p (at (list_below n p) k) (in_at (list_below n p) k h)

ascends_more : (l : List ℕ) (n : ℕ) (b : Bool) → ((k : ℕ) → k < length l → at l k < n) → Ascending l → Ascending (l ++ cond b (n ∷ []) [])
unfolding at
ascends_more l n true low h j k u v =
    let v' : k < suc (length l) = omega (arith, length-append l (n ∷ [])) in
    let first = get_or-append l (n ∷ []) 0 j (omega arith) in
    ⊎_elim (λ e. omega (arith, first, get_or_at l n [] 0 k (sym e), low j (omega arith)))
    (λ w. omega (arith, first, get_or-append l (n ∷ []) 0 k w, h j k u w)) (last_or v')
ascends_more l n false low h j k u v = rw append-nil (h j k u (rw append-nil at v))

pub list_below_ascends : (n : ℕ) (p : ℕ → Bool) → Ascending (list_below n p)
unfolding list_below join_below
list_below_ascends zero p j k u v = absurd (not-suc-le-zero v)
list_below_ascends (suc n) p j k u v = ascends_more (list_below n p) n (p n) (λ k l. (list_below_in n p k l).0) (list_below_ascends n p) j k u v

-- what is joined over the numbers that pass is joined over the entries of their list
pub join_below_passing : (g : ℕ → List ℕ) (p : ℕ → Bool) (n : ℕ) → join_below n (λ i. cond (p i) (g i) []) ≡ join_below (length (list_below n p)) (λ k. g (at (list_below n p) k))
unfolding at list_below join_below
join_below_passing g p zero = refl
join_below_passing g p (suc n) =
    ap₂ ◌++◌ (join_below_passing g p n) (split (p n) (λ e. rw e) (λ e. rw e)) ∙ sym (join_below-append g (list_below n p) (cond (p n) (n ∷ []) []))

-- a list that ascends and has just the numbers below n that pass
pub list_below_by : (n : ℕ) (p : ℕ → Bool) (l : List ℕ) → Ascending l → ((x : ℕ) → has x l ≡ (ltb x n && p x)) → list_below n p ≡ l
list_below_by n p l up h =
    ascending_same (list_below n p) l (list_below_ascends n p) up
    (λ x. omega (arith, count-list_below x n p, ap indicator (h x), has_once x l (ascending_once l up) 1))

-- as an ascending list of numbers below n has those that stand in it
pub list_below_members : (n : ℕ) (l : List ℕ) → Ascending l → ((x : ℕ) → x ∈ l → x < n) → list_below n (λ x. has x l) ≡ l
list_below_members n l up low =
    list_below_by n (λ x. has x l) l up (λ x. split (has x l) (λ e. rw (e, lt-ltb x n (low x (has_in x l e)))) (λ e. rw (e, and-false (ltb x n))))

-- so what is joined over the numbers that stand in it is joined over its entries
pub join_below_members : (l : List ℕ) (n : ℕ) (g : ℕ → List ℕ) → Ascending l → ((x : ℕ) → x ∈ l → x < n)
    → join_below n (λ i. cond (has i l) (g i) []) ≡ join_below (length l) (λ k. g (at l k))
join_below_members l n g up low =
    join_below_passing g (λ x. has x l) n ∙ ap (λ m. join_below (length m) (λ k. g (at m k))) (list_below_members n l up low)

-- one number more passes, above all others: it stands behind them
pub list_below_more : (p : ℕ → Bool) (x n : ℕ) → x < n → ((j : ℕ) → j < n → p j ≡ true → j < x) → list_below n (λ j. p j || eqb x j) ≡ list_below n p ++ (x ∷ [])
list_below_more p x n h low =
    ascending_same _ _ (list_below_ascends n _)
    (ascends_more (list_below n p) x true (λ k l. let w = list_below_in n p k l in low _ w.0 w.1) (list_below_ascends n p))
    (λ y. count-list_below y n (λ j. p j || eqb x j) ∙ agree y ∙ sym (count-append y (list_below n p) (x ∷ []) ∙ ap (λ c. c + (indicator (eqb y x) + 0)) (count-list_below y n p)))
  where
    agree : (y : ℕ) → indicator (ltb y n && (p y || eqb x y)) ≡ indicator (ltb y n && p y) + (indicator (eqb y x) + 0)
    agree y =
        split (eqb y x)
        (λ e. let q : y ≡ x = eqb-true y x e in
        let none : p y ≡ false = fails (p y) (λ t. omega (arith, q, low y (omega (arith, q)) t)) in
        rw (e, eqb_comm x y, e, none, lt-ltb y n (omega (arith, q))))
        (λ e. rw (e, eqb_comm x y, e, or-false (p y)) (omega arith))
