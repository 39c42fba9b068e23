-- `orders (range n)` holds every order of n buses once, and nothing else.
use Rattle.std.specs.Prelude.{true, false, cond, List, [], ◌∷◌, ◌≡◌, refl, ℕ, suc, ◌+◌, ◌*◌, ◌<◌, eqb, length}
use Rattle.std.proofs.Common.{⊎_elim, sym, ap, ap₂, ◌∙◌, subst, zero-add, eq-zero-or-pos, arith, eq-eqb, eqb-true, ne_eqb, lt-ltb}
use Rattle.lists.specs.Lists.{indicator, count, ◌∈◌, has, Once}
use Rattle.lists.specs.Below.{range}
use Rattle.lists.proofs.Tests.{split, passes, eqb_self, eqb_comm}
use Rattle.lists.proofs.Sums.{sum_by_ones}
use Rattle.lists.proofs.Counts.{in_has, in_first}
use Rattle.lists.proofs.SumsBelow.{count-range, range_once}
use Rattle.lists.proofs.JoinBelow.{length-range}
use Rattle.game.specs.Orders.{orders, factorial, same, times, EveryOrderOnce}
use Rattle.game.specs.Arrange.{over_insertions, over_orders, Inserted, OrderOf}
use Rattle.game.proofs.Arrange.{over_orders_cong, over_orders_scale, sum-orders, count_order}
use Rattle.game.specs.Arrange.Inserted.{here, later}
use Rattle.game.specs.Arrange.OrderOf.{none, add}
use Rattle.game.proofs.Joining.{over_insertions_const, over_orders_ignores}

-- ---- there are n! of them

over_orders-one : (xs : List ℕ) → over_orders xs (λ l. 1) ≡ factorial (length xs)
over_orders-one [] = refl
over_orders-one (x ∷ xs) = over_orders_ignores x xs (λ l. 1) (λ p s. refl) ∙ ap (λ n. suc (length xs) * n) (over_orders-one xs)

how_many : (xs : List ℕ) → length (orders xs) ≡ factorial (length xs)
how_many xs = sym (sum_by_ones (orders xs)) ∙ sum-orders xs (λ l. 1) ∙ over_orders-one xs

-- ---- what stands among them is an order

same-eq : (l m : List ℕ) → same l m ≡ true → l ≡ m
same-eq [] [] e = refl
same-eq [] (y ∷ m) e = cc
same-eq (x ∷ l) [] e = cc
same-eq (x ∷ l) (y ∷ m) e =
    split (eqb x y)
    (λ t. ap₂ ◌∷◌ (eqb-true x y t) (same-eq l m (rw t at e)))
    (λ t. let z : false ≡ true = rw t at e in cc)

found_inserted : (x : ℕ) (l : List ℕ) (f : List ℕ → ℕ) → 0 < over_insertions x l f → (r : List ℕ) × Inserted x l r × (0 < f r)
found_inserted x [] f h = (x ∷ [], here, h)
found_inserted x (y ∷ l) f h =
    ⊎_elim
    (λ z. let (r, i, p) = found_inserted x l (λ r. f (y ∷ r)) (omega arith) in (y ∷ r, later i, p))
    (λ p. (x ∷ y ∷ l, here, p)) (eq-zero-or-pos (f (x ∷ y ∷ l)))

found : (xs : List ℕ) (f : List ℕ → ℕ) → 0 < over_orders xs f → (l : List ℕ) × OrderOf xs l × (0 < f l)
found [] f h = ([], none, h)
found (x ∷ xs) f h =
    let (l, o, p) = found xs (λ l. over_insertions x l f) h in
    let (r, i, q) = found_inserted x l f p in
    (r, add o i, q)

order_of_times : (xs l : List ℕ) → 0 < times l (orders xs) → OrderOf xs l
order_of_times xs l h =
    let (m, o, p) = found xs (λ m. indicator (same l m)) (rw (sum-orders xs (λ m. indicator (same l m))) at h) in
    subst (λ k. OrderOf xs k) (sym (same-eq l m (passes (same l m) (λ f. omega (arith, ap indicator f))))) o

-- ---- and each order stands among them once

-- a list without the first place where x stands
abbrev remove : ℕ → List ℕ → List ℕ
remove x [] = []
remove x (y ∷ l) = cond (eqb x y) l (y ∷ remove x l)

count-remove : (i x : ℕ) (l : List ℕ) → x ∈ l → indicator (eqb i x) + count i (remove x l) ≡ count i l
count-remove i x [] h = absurd (omega arith)
count-remove i x (y ∷ l) h =
    split (eqb x y)
    (λ e. rw (e, eqb-true x y e))
    (λ e. rw e (omega (arith, count-remove i x l (omega (arith, ap indicator e)))))

-- x can be put into m in one way at most to make l
over_insertions-same : (x : ℕ) (m : List ℕ) → count x m ≡ 0 → (l : List ℕ)
    → over_insertions x m (λ r. indicator (same l r)) ≡ indicator (has x l) * indicator (same (remove x l) m)
over_insertions-same x [] h [] = refl
over_insertions-same x [] h (y ∷ l) =
    split (eqb x y)
    (λ e. rw (e, ← eqb-true x y e, eqb_self x, lt-ltb 0 (1 + count x l) (omega arith)) (omega arith))
    (λ e. rw (e, eqb_comm y x, e) (omega arith))
over_insertions-same x (z ∷ m) h [] = omega (arith, over_insertions_const x m 0)
over_insertions-same x (z ∷ m) h (y ∷ l) =
    split (eqb x y)
    (λ e. let n : eqb x z ≡ false = ne_eqb x z (λ q. omega (arith, ap indicator (eq-eqb x z q))) in
    rw (e, ← eqb-true x y e, eqb_self x, n, lt-ltb 0 (1 + count x l) (omega arith)) (omega (arith, over_insertions_const x m 0)))
    (λ e. rw (e, eqb_comm y x, e)
    (split (eqb y z)
    (λ t. rw t (simp zero-add (over_insertions-same x m (omega arith) l)))
    (λ t. rw t (omega (arith, over_insertions_const x m 0)))))

times_order : (xs : List ℕ) → Once xs → (l : List ℕ) → ((i : ℕ) → count i l ≡ count i xs) → over_orders xs (λ m. indicator (same l m)) ≡ 1
times_order [] d [] h = refl
times_order [] d (y ∷ l) h = absurd (omega (arith, h y, in_first y l))
times_order (x ∷ xs) d l h =
    let t : x ∈ l = omega (arith, h x, in_first x xs) in
    over_orders_cong xs (λ m o. over_insertions-same x m (omega (arith, count_order o x, d x, ap indicator (eqb_self x))) l)
    ∙ over_orders_scale xs (indicator (has x l)) (λ m. indicator (same (remove x l) m))
    ∙ ap₂ ◌*◌ (ap indicator (in_has x l t))
    (times_order xs (λ i. omega (arith, d i)) (remove x l) (λ i. omega (arith, count-remove i x l t, h i)))

-- THE ORDERS
pub every_order_once : (n : ℕ) → EveryOrderOnce n (orders (range n))
every_order_once n = record {
  size = how_many (range n) ∙ ap factorial (length-range n);
  once = λ l o. sum-orders (range n) (λ m. indicator (same l m)) ∙ times_order (range n) (range_once n) l (λ i. o i ∙ sym (count-range i n));
  only = λ l h i. count_order (order_of_times (range n) l h) i ∙ count-range i n;
}
