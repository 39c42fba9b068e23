-- Laws of sums, counts and the largest value over the numbers below a bound.
use Rattle.std.specs.Prelude.{Bool, true, cond, ◌&&◌, List, [], ◌∷◌, ◌≡◌, refl, ℕ, zero, suc, ◌+◌, ◌*◌, ◌≤◌, ◌<◌, eqb, ltb, length}
use Rattle.std.proofs.Common.{⊎_elim, sym, ap, ap₂, ◌∙◌, zero-le, not-suc-le-zero, le_refl, le_trans, le_of_suc-le-suc, eq-or-lt_of_le, add-zero, mul-zero, add-le-add, arith, eqb-true, ne_eqb, ltb-true, ltb-false, lt-ltb, le-ltb}
use Rattle.std.proofs.Math.Path.{fun_ext}
use Rattle.std.proofs.Math.Nat.{le-max_left, le-max_right, max-le}
use Rattle.std.proofs.lemmas.Bool.{eqb-false}
use Rattle.lists.specs.Lists.{indicator, sum_by, count, ◌∈◌, has, Once}
use Rattle.lists.specs.Below.{sum_below, count_below, largest_below, join_below, map_below, range}
use Rattle.lists.proofs.Tests.{split, passes, eqb_self}
use Rattle.lists.proofs.Sums.{indicator-le, sum_by-append, sum_by-add, sum_by_ones}
use Rattle.lists.proofs.Counts.{count-append, sum_by_cong_in, sum_by_single, sum_by-part}
use Rattle.lists.proofs.Loops.{last_or, sum_below-next}

-- ---- sums

pub sum_by-join_below : (g : ℕ → ℕ) (n : ℕ) (f : ℕ → List ℕ) → sum_by g (join_below n f) ≡ sum_below n (λ i. sum_by g (f i))
unfolding join_below sum_below
sum_by-join_below g zero f = refl
sum_by-join_below g (suc n) f = sum_by-append g (join_below n f) (f n) ∙ ap (λ s. s + sum_by g (f n)) (sum_by-join_below g n f)

-- THE LINK: a sum over the numbers below n is a sum over their list, so the laws of `sum_by` are those of `sum_below`
pub sum_by-range : (f : ℕ → ℕ) (n : ℕ) → sum_by f (range n) ≡ sum_below n f
unfolding map_below
sum_by-range f n = sum_by-join_below f n (λ i. i ∷ []) ∙ ap (sum_below n) (fun_ext (λ i. add-zero (f i)))

pub count-range : (x n : ℕ) → count x (range n) ≡ indicator (ltb x n)
unfolding map_below join_below
count-range x zero = rw (le-ltb x 0 (omega arith))
count-range x (suc n) =
    let c = count-append x (range n) (n ∷ []) in
    let h = count-range x n in
    split (eqb x n)
    (λ e. let q : x ≡ n = eqb-true x n e in omega (arith, ap indicator e, ap indicator (le-ltb x n (omega arith)), ap indicator (lt-ltb x (suc n) (omega arith))))
    (λ e. let d : x ≡ n → ⊥ = eqb-false x n e in split (ltb x n)
    (λ t. let q = ltb-true x n t in omega (arith, ap indicator e, ap indicator t, ap indicator (lt-ltb x (suc n) (omega arith))))
    (λ t. let q = ltb-false x n t in omega (arith, ap indicator e, ap indicator t, ap indicator (le-ltb x (suc n) (omega (arith, d))))))

pub in_range_lem : (x n : ℕ) → x < n → x ∈ range n
in_range_lem x n h = omega (arith, count-range x n, ap indicator (lt-ltb x n h))

pub of_range : (x n : ℕ) → x ∈ range n → x < n
of_range x n h = split (ltb x n) (ltb-true x n) (λ t. absurd (omega (arith, count-range x n, ap indicator t)))

pub range_once : (n : ℕ) → Once (range n)
range_once n x = omega (arith, count-range x n, indicator-le (ltb x n))

pub sum_below-same : (f g : ℕ → ℕ) (n : ℕ) → ((i : ℕ) → i < n → f i ≡ g i) → sum_below n f ≡ sum_below n g
sum_below-same f g n h = sym (sum_by-range f n) ∙ sum_by_cong_in (range n) (λ i p. h i (of_range i n p)) ∙ sum_by-range g n

pub sum_below-add : (f g : ℕ → ℕ) (n : ℕ) → sum_below n (λ i. f i + g i) ≡ sum_below n f + sum_below n g
sum_below-add f g n = sym (sum_by-range (λ i. f i + g i) n) ∙ sum_by-add f g (range n) ∙ ap₂ ◌+◌ (sum_by-range f n) (sum_by-range g n)

pub sum_below-le : (f g : ℕ → ℕ) (n : ℕ) → ((i : ℕ) → i < n → f i ≤ g i) → sum_below n f ≤ sum_below n g
unfolding sum_below
sum_below-le f g zero h = zero-le
sum_below-le f g (suc n) h = add-le-add (sum_below-le f g n (λ i l. h i (omega arith))) (h n (omega arith))

-- a sum over more numbers is no less
pub sum_below_grows : (f : ℕ → ℕ) {i : ℕ} (n : ℕ) → i ≤ n → sum_below i f ≤ sum_below n f
unfolding sum_below
sum_below_grows f {i} zero h = let e : i ≡ 0 = omega arith in rw e (le_refl 0)
sum_below_grows f {i} (suc n) h =
    ⊎_elim (λ e. rw e (le_refl (sum_below (suc n) f))) (λ l. omega (arith, sum_below_grows f n (le_of_suc-le-suc l))) (eq-or-lt_of_le h)

-- and no less than a sum with its next value
pub sum_below-next-le : (f : ℕ → ℕ) {i : ℕ} (n : ℕ) → i < n → sum_below i f + f i ≤ sum_below n f
sum_below-next-le f {i} n h = omega (arith, sum_below-next i f, sum_below_grows f {i = i + 1} n (omega arith))

pub sum_below_const : (c n : ℕ) → sum_below n (λ i. c) ≡ n * c
unfolding sum_below
sum_below_const c zero = omega arith
sum_below_const c (suc n) = omega (arith, sum_below_const c n)

-- a double sum may be taken in either order
pub sum_below_swap : (f : ℕ → ℕ → ℕ) (n m : ℕ) → sum_below n (λ i. sum_below m (f i)) ≡ sum_below m (λ j. sum_below n (λ i. f i j))
unfolding sum_below
sum_below_swap f zero m = sym (sum_below_const 0 m ∙ mul-zero m)
sum_below_swap f (suc n) m = ap (λ s. s + sum_below m (f n)) (sum_below_swap f n m) ∙ sym (sum_below-add (λ j. sum_below n (λ i. f i j)) (f n) m)

-- the sum of what is 0 but at k
pub sum_below_single : (g : ℕ → ℕ) (k n : ℕ) → sum_below n (λ i. g i * indicator (eqb k i)) ≡ g k * indicator (ltb k n)
sum_below_single g k n = sym (sum_by-range (λ i. g i * indicator (eqb k i)) n) ∙ sum_by_single g k (range n) ∙ ap (λ c. g k * c) (count-range k n)

pub count_below-le : (p : ℕ → Bool) (n : ℕ) → count_below n p ≤ n
count_below-le p n = omega (arith, sum_below-le (λ i. indicator (p i)) (λ i. 1) n (λ i _. indicator-le (p i)), sum_below_const 1 n)

-- those below a lower bound
pub count_below_cut : (p : ℕ → Bool) {k : ℕ} (n : ℕ) → k ≤ n → count_below n (λ i. ltb i k && p i) ≡ count_below k p
unfolding sum_below
count_below_cut p {k} zero l = let e : k ≡ 0 = omega arith in rw e
count_below_cut p {k} (suc n) l =
    ⊎_elim
    (λ e. sum_below-same _ _ (suc n) (λ i h. ap (λ b. indicator (b && p i)) (lt-ltb i k (omega (arith, e)))) ∙ sym (ap (λ m. count_below m p) e))
    (λ h. omega (arith, count_below_cut p n (le_of_suc-le-suc h), ap (λ b. indicator (b && p n)) (le-ltb n k (le_of_suc-le-suc h)))) (eq-or-lt_of_le l)

-- where as many pass as there are, each does
pub count_below-all : (p : ℕ → Bool) (n : ℕ) {i : ℕ} → count_below n p ≡ n → i < n → p i ≡ true
unfolding sum_below
count_below-all p zero e l = absurd (not-suc-le-zero l)
count_below-all p (suc n) e l =
    ⊎_elim
    (λ q. rw q (passes (p n) (λ f. omega (arith, e, count_below-le p n, ap indicator f))))
    (λ h. count_below-all p n (omega (arith, e, count_below-le p n, indicator-le (p n))) h) (last_or l)

-- exactly one number below n is k
pub count_below-one : (k n : ℕ) → k < n → count_below n (eqb k) ≡ 1
count_below-one k n l =
    omega
    (arith, sum_below_single (λ i. 1) k n, sum_below-same (λ i. indicator (eqb k i)) (λ i. 1 * indicator (eqb k i)) n (λ i h. omega arith), ap indicator (lt-ltb k n l))

-- a number that passes counts among those below a higher bound
pub count_below_more : (p : ℕ → Bool) (k n : ℕ) → k < n → p k ≡ true → count_below k p < count_below n p
unfolding sum_below
count_below_more p k zero l e = absurd (not-suc-le-zero l)
count_below_more p k (suc n) l e =
    ⊎_elim (λ q. omega (arith, ap (λ x. count_below x p) q, ap indicator (sym (ap p q) ∙ e))) (λ h. omega (arith, count_below_more p k n h e)) (last_or l)

-- of a table of numbers that is the same both ways, with zeros on the diagonal, the part below the diagonal is half
pub sum_below_mirror : (f : ℕ → ℕ → ℕ) (n : ℕ) → ((i j : ℕ) → i < n → j < n → f i j ≡ f j i) → ((i : ℕ) → i < n → f i i ≡ 0)
    → sum_below n (λ i. sum_below n (f i)) ≡ 2 * sum_below n (λ i. sum_below i (f i))
unfolding sum_below
sum_below_mirror f zero h d = refl
sum_below_mirror f (suc n) h d =
    omega (
      arith,
      sum_below-add (λ i. sum_below n (f i)) (λ i. f i n) n,
      sum_below-same (λ i. f i n) (f n) n (λ i l. h i n (omega arith) (omega arith)),
      sum_below_mirror f n (λ i j a b. h i j (omega arith) (omega arith)) (λ i a. d i (omega arith)),
      d n (omega arith),
    )

-- a list without repeats is as long as it has members
pub length_members : (n : ℕ) (l : List ℕ) → Once l → ((x : ℕ) → x ∈ l → x < n) → length l ≡ count_below n (λ x. has x l)
length_members n l once low =
    sym (sum_by_ones l)
    ∙ sym (sum_by-part (λ x. 1) (range n) l (range_once n) once (λ x m. in_range_lem x n (low x m)))
    ∙ sum_by-range (λ x. indicator (has x l)) n

-- ---- the largest: no value is above it, and it is no higher than what no value is above

pub largest_below-at : (f : ℕ → ℕ) (n : ℕ) {i : ℕ} → i < n → f i ≤ largest_below n f
unfolding largest_below
largest_below-at f zero h = absurd (not-suc-le-zero h)
largest_below-at f (suc n) h =
    ⊎_elim (λ e. rw e (le-max_right (largest_below n f) (f n)))
    (λ l. le_trans (largest_below-at f n l) (le-max_left (largest_below n f) (f n))) (last_or h)

pub largest_below-le : (f : ℕ → ℕ) (m n : ℕ) → ((i : ℕ) → i < n → f i ≤ m) → largest_below n f ≤ m
unfolding largest_below
largest_below-le f m zero h = zero-le
largest_below-le f m (suc n) h = max-le (largest_below-le f m n (λ i l. h i (omega arith))) (h n (omega arith))

-- ---- two sums that differ in few places

-- in one
sum_below_but_one : (f g : ℕ → ℕ) (n a : ℕ) → a < n → ((u : ℕ) → u < n → (u ≡ a → ⊥) → f u ≡ g u) → sum_below n f + g a ≡ sum_below n g + f a
unfolding sum_below
sum_below_but_one f g zero a b h = absurd (omega arith)
sum_below_but_one f g (suc n) a b h =
    split (eqb a n)
    (λ e. let q = eqb-true a n e in omega (arith, sum_below-same f g n (λ u l. h u (omega arith) (λ z. omega arith)), ap f q, ap g q))
    (λ e. let d : a ≡ n → ⊥ = eqb-false a n e in omega (arith, sum_below_but_one f g n a (omega (arith, d)) (λ u l. h u (omega arith)), h n (omega arith) (λ z. d (sym z))))

-- in two
pub sum_below_but_two : (f g : ℕ → ℕ) (n a b : ℕ) → a < n → b < n → (a ≡ b → ⊥) → ((u : ℕ) → u < n → (u ≡ a → ⊥) → (u ≡ b → ⊥) → f u ≡ g u)
    → sum_below n f + (g a + g b) ≡ sum_below n g + (f a + f b)
sum_below_but_two f g n a b l m d h =
    let mixed : ℕ → ℕ = λ u. cond (eqb u a) (g u) (f u) in
    let at_a : mixed a ≡ g a = rw (eqb_self a) in
    let at_b : mixed b ≡ f b = rw (ne_eqb b a (λ e. d (sym e))) in
    omega (
      arith,
      at_a,
      at_b,
      sum_below_but_one f mixed n a l (λ u _ z. rw (ne_eqb u a z)),
      sum_below_but_one mixed g n b m (λ u k z. split (eqb u a) (λ e. rw e) (λ e. rw e (h u k (eqb-false u a e) z))),
    )
