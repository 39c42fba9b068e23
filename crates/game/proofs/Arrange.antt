-- Sums over all orders of a list, by recursion, and that they do not depend on how the list is written.
use mathlib.Core.List.{List, [], ◌∷◌, map, flat_map}
use Rattle.std.specs.Prelude.{◌≡◌, refl, ℕ, suc, ◌+◌, ◌*◌, eqb, length}
use Rattle.std.proofs.Common.{sym, ap, ◌∙◌, add_comm, arith, eqb-true}
use Rattle.std.proofs.Math.Path.{fun_ext}
use Rattle.lists.specs.Lists.{indicator, sum_by, count, ◌∈◌}
use Rattle.lists.proofs.Tests.{split}
use Rattle.lists.proofs.Sums.{sum_by_cong, sum_by_scale, sum_by-map, sum_by_flat_map}
use Rattle.lists.proofs.Counts.{in_first}
use Rattle.game.specs.Orders.{insertions, orders}
use Rattle.game.specs.Arrange.{Inserted, OrderOf, add, here, later, none, over_insertions, over_orders}

sum-insertions : (x : ℕ) (l : List ℕ) (f : List ℕ → ℕ) → sum_by f (insertions x l) ≡ over_insertions x l f
sum-insertions x [] f = omega arith
sum-insertions x (y ∷ l) f =
    ap (λ n. f (x ∷ y ∷ l) + n) (sum_by-map f (λ r. y ∷ r) (insertions x l) ∙ sum-insertions x l (λ r. f (y ∷ r)))

pub sum-orders : (l : List ℕ) (f : List ℕ → ℕ) → sum_by f (orders l) ≡ over_orders l f
unfolding flat_map
sum-orders [] f = omega arith
sum-orders (x ∷ l) f =
    sum_by_flat_map f (insertions x) (orders l)
    ∙ sum_by_cong (λ m. sum-insertions x m f) (orders l)
    ∙ sum-orders l (λ m. over_insertions x m f)

-- ---- sums of functions that agree on the orders

pub over_insertions_cong : {x : ℕ} (l : List ℕ) {f g : List ℕ → ℕ} → ((r : List ℕ) → Inserted x l r → f r ≡ g r)
    → over_insertions x l f ≡ over_insertions x l g
over_insertions_cong [] h = h _ here
over_insertions_cong (y ∷ l) {f} {g} h =
    omega (arith, h _ here, over_insertions_cong l {f = λ r. f (y ∷ r)} {g = λ r. g (y ∷ r)} (λ r i. h (y ∷ r) (later i)))

pub over_orders_cong : (xs : List ℕ) {f g : List ℕ → ℕ} → ((l : List ℕ) → OrderOf xs l → f l ≡ g l) → over_orders xs f ≡ over_orders xs g
over_orders_cong [] h = h [] none
over_orders_cong (x ∷ xs) h = over_orders_cong xs (λ l o. over_insertions_cong l (λ r i. h r (add o i)))

pub over_orders_scale : (xs : List ℕ) (c : ℕ) (f : List ℕ → ℕ) → over_orders xs (λ l. c * f l) ≡ c * over_orders xs f
over_orders_scale xs c f = sym (sum-orders xs (λ l. c * f l)) ∙ sum_by_scale c f (orders xs) ∙ ap (λ n. c * n) (sum-orders xs f)

-- ---- the list may be written in any order

over_insertions-add : (x : ℕ) (l : List ℕ) (f g : List ℕ → ℕ)
    → over_insertions x l (λ r. f r + g r) ≡ over_insertions x l f + over_insertions x l g
over_insertions-add x [] f g = refl
over_insertions-add x (y ∷ l) f g = omega (arith, over_insertions-add x l (λ r. f (y ∷ r)) (λ r. g (y ∷ r)))

over_insertions_swap : (x y : ℕ) (l : List ℕ) (f : List ℕ → ℕ)
    → over_insertions y l (λ r. over_insertions x r f) ≡ over_insertions x l (λ r. over_insertions y r f)
over_insertions_swap x y [] f = add_comm (f (x ∷ y ∷ [])) (f (y ∷ x ∷ []))
over_insertions_swap x y (z ∷ l) f =
    omega (
      arith,
      over_insertions-add y l (λ r. f (x ∷ z ∷ r)) (λ r. over_insertions x r (λ s. f (z ∷ s))),
      over_insertions-add x l (λ r. f (y ∷ z ∷ r)) (λ r. over_insertions y r (λ s. f (z ∷ s))),
      over_insertions_swap x y l (λ r. f (z ∷ r)),
    )

over_orders_inserted : {x : ℕ} {l r : List ℕ} → Inserted x l r → (f : List ℕ → ℕ) → over_orders (x ∷ l) f ≡ over_orders r f
over_orders_inserted here f = refl
over_orders_inserted {x} (later {y = y} {l = l} i) f =
    ap (over_orders l) (fun_ext (λ m. over_insertions_swap x y m f)) ∙ over_orders_inserted i (λ m. over_insertions y m f)

pub over_orders_order : {xs l : List ℕ} → OrderOf xs l → (f : List ℕ → ℕ) → over_orders xs f ≡ over_orders l f
over_orders_order none f = refl
over_orders_order (add {x = x} o i) f = over_orders_order o (λ m. over_insertions x m f) ∙ over_orders_inserted i f

-- ---- and by other numbers

over_insertions-map : (f : ℕ → ℕ) (x : ℕ) (l : List ℕ) (F : List ℕ → ℕ) → over_insertions (f x) (map f l) F ≡ over_insertions x l (λ r. F (map f r))
over_insertions-map f x [] F = refl
over_insertions-map f x (y ∷ l) F = ap (λ n. F (f x ∷ f y ∷ map f l) + n) (over_insertions-map f x l (λ r. F (f y ∷ r)))

pub over_orders-map : (f : ℕ → ℕ) (xs : List ℕ) (F : List ℕ → ℕ) → over_orders (map f xs) F ≡ over_orders xs (λ l. F (map f l))
over_orders-map f [] F = refl
over_orders-map f (x ∷ xs) F =
    over_orders-map f xs (λ m. over_insertions (f x) m F) ∙ ap (over_orders xs) (fun_ext (λ m. over_insertions-map f x m F))

-- ---- an order of a list has its members, each as often

sum_by_inserted : {x : ℕ} {l r : List ℕ} → Inserted x l r → (f : ℕ → ℕ) → sum_by f r ≡ f x + sum_by f l
sum_by_inserted here f = refl
sum_by_inserted (later j) f = omega (arith, sum_by_inserted j f)

pub sum_by_order : {xs l : List ℕ} → OrderOf xs l → (f : ℕ → ℕ) → sum_by f l ≡ sum_by f xs
sum_by_order none f = refl
sum_by_order (add o j) f = omega (arith, sum_by_order o f, sum_by_inserted j f)

count_inserted : {x : ℕ} {l r : List ℕ} → Inserted x l r → (i : ℕ) → count i r ≡ indicator (eqb i x) + count i l
count_inserted j i = sum_by_inserted j (λ y. indicator (eqb i y))

pub count_order : {xs l : List ℕ} → OrderOf xs l → (i : ℕ) → count i l ≡ count i xs
count_order o i = sum_by_order o (λ y. indicator (eqb i y))

pub inserted_in : {x : ℕ} {l r : List ℕ} → Inserted x l r → x ∈ r
inserted_in {x} {l} j = omega (arith, count_inserted j x, in_first x l)

pub length_inserted : {x : ℕ} {l r : List ℕ} → Inserted x l r → length r ≡ suc (length l)
length_inserted here = refl
length_inserted (later j) = ap suc (length_inserted j)

pub length_order : {xs l : List ℕ} → OrderOf xs l → length l ≡ length xs
length_order none = refl
length_order (add o j) = length_inserted j ∙ ap suc (length_order o)

-- what stands in a list was put in somewhere
taken_out_lem : (x : ℕ) (l : List ℕ) → x ∈ l → (m : List ℕ) × Inserted x m l
taken_out_lem x [] h = absurd (omega arith)
taken_out_lem x (y ∷ l) h =
    split (eqb x y)
    (λ e. (l, rw (eqb-true x y e) here))
    (λ e. let (m, i) = taken_out_lem x l (omega (arith, ap indicator e)) in (y ∷ m, later i))

-- so a list with the members of xs, each as often, is an order of xs
pub order_of_counts : (xs l : List ℕ) → ((i : ℕ) → count i l ≡ count i xs) → OrderOf xs l
order_of_counts [] [] h = none
order_of_counts [] (y ∷ l) h = absurd (omega (arith, h y, in_first y l))
order_of_counts (x ∷ xs) l h =
    let (m, i) = taken_out_lem x l (omega (arith, h x, in_first x xs)) in
    add (order_of_counts xs m (λ j. omega (arith, h j, count_inserted i j))) i
