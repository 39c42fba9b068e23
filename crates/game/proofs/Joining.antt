-- What only some of the players decide: their orders are enough.
use Rattle.std.specs.Prelude.{false, List, [], ◌∷◌, ◌++◌, ◌≡◌, refl, ℕ, suc, ◌+◌, ◌-◌, ◌*◌, eqb, length}
use Rattle.std.proofs.Common.{sym, ap, ap₂, ◌∙◌, mul_comm, arith, eqb-true}
use Rattle.std.proofs.Math.Nat.{sub-zero, suc-sub-suc}
use Rattle.lists.specs.Lists.{indicator, sum_by, count, ◌∈◌, has, without}
use Rattle.lists.proofs.Tests.{split, eqb_self}
use Rattle.lists.proofs.Counts.{has_in, has-none, in_first, count-append, count-without}
use Rattle.game.specs.Orders.{orders, factorial, before, Ignores}
use Rattle.game.specs.Arrange.{over_insertions, over_orders, OrderOf}
use Rattle.game.proofs.Arrange.{sum-orders, over_orders_cong, over_orders_scale, over_orders_order, length_order, order_of_counts}

-- each of the places for a player that f ignores counts f once
over_insertions_ignores : (r : ℕ) (l : List ℕ) (f : List ℕ → ℕ) → Ignores r f → over_insertions r l f ≡ suc (length l) * f l
over_insertions_ignores r [] f h = omega (arith, h [] [])
over_insertions_ignores r (y ∷ l) f h = omega (arith, h [] (y ∷ l), over_insertions_ignores r l (λ m. f (y ∷ m)) (λ p s. h (y ∷ p) s))

pub over_insertions_const : (x : ℕ) (l : List ℕ) (c : ℕ) → over_insertions x l (λ r. c) ≡ suc (length l) * c
over_insertions_const x l c = over_insertions_ignores x l (λ r. c) (λ p s. refl)

-- b is put in before v, or after it, where `before v` does not see it
pub over_insertions-before : (b v : ℕ) → eqb v b ≡ false → (l : List ℕ) (f : List ℕ → ℕ)
    → over_insertions b l (λ r. f (before v r)) ≡ over_insertions b (before v l) f + (length l - length (before v l)) * f (before v l)
over_insertions-before b v n [] f = rw n (omega arith)
over_insertions-before b v n (y ∷ l) f =
    split (eqb v y)
    (λ e. rw (n, e) (ap (λ n. f (b ∷ []) + n) (over_insertions_const b l (f []) ∙ ap (λ n. n * f []) (sym (sub-zero (suc (length l)))))))
    (λ e. rw (n, e) (omega (arith, over_insertions-before b v n l (λ r. f (y ∷ r)), ap (λ n. n * f (y ∷ before v l)) (suc-sub-suc (length l) (length (before v l))))))

-- what ignores r, of what stands before v, still ignores r
pub before_ignores : (r v : ℕ) → eqb v r ≡ false → (f : List ℕ → ℕ) → Ignores r f → Ignores r (λ l. f (before v l))
before_ignores r v n f h [] s = rw n (h [] (before v s))
before_ignores r v n f h (y ∷ p) s =
    split (eqb v y)
    (λ e. rw e)
    (λ e. rw e (before_ignores r v n (λ m. f (y ∷ m)) (λ q t. h (y ∷ q) t) p s))

-- one more member that f ignores: each order of the others counts once for each place
pub over_orders_ignores : (r : ℕ) (xs : List ℕ) (f : List ℕ → ℕ) → Ignores r f → over_orders (r ∷ xs) f ≡ suc (length xs) * over_orders xs f
over_orders_ignores r xs f h =
    over_orders_cong xs (λ l o. over_insertions_ignores r l f h ∙ ap (λ n. suc n * f l) (length_order o))
    ∙ over_orders_scale xs (suc (length xs)) f

join_front : (rs xs : List ℕ) (f : List ℕ → ℕ) → ((r : ℕ) → r ∈ rs → Ignores r f)
    → over_orders (rs ++ xs) f * factorial (length xs) ≡ factorial (length (rs ++ xs)) * over_orders xs f
join_front [] xs f h = mul_comm (over_orders xs f) (factorial (length xs))
join_front (r ∷ rs) xs f h =
    let n = length (rs ++ xs) in
    omega (
      arith,
      ap (λ k. k * factorial (length xs)) (over_orders_ignores r (rs ++ xs) f (h r (in_first r rs))),
      ap (λ k. suc n * k) (join_front rs xs f (λ i p. h i (omega arith))),
    )

module _ (ps c : List ℕ) (inside : (i : ℕ) → i ∈ c → count i c ≡ count i ps) where
  -- the members of c may be put last
  pub part-last : OrderOf ps (without c ps ++ c)
  part-last = order_of_counts ps (without c ps ++ c) (λ i.
      count-append i (without c ps) c
      ∙ split (has i c)
      (λ e. omega (arith, rw e at (count-without i c ps), inside i (has_in i c e)))
      (λ e. omega (arith, rw e at (count-without i c ps), has-none i c e)))

  -- THE FACT ON JOINING ORDERS, for a part c of the players of any size: the sum over the orders of all, of what ignores
  -- everybody outside c, is (length ps)! / (length c)! times the sum over the orders of c
  pub joining : (f : List ℕ → ℕ) → ((r : ℕ) → count r c ≡ 0 → Ignores r f)
      → sum_by f (orders ps) * factorial (length c) ≡ factorial (length ps) * sum_by f (orders c)
  joining f h =
      ap (λ n. n * factorial (length c)) (sum-orders ps f ∙ over_orders_order part-last f)
      ∙ join_front (without c ps) c f (λ r p. h r (split (has r c)
      (λ e. absurd (omega (arith, rw e at (count-without r c ps))))
      (has-none r c)))
      ∙ ap₂ (λ n s. factorial n * s) (length_order part-last) (sym (sum-orders c f))

-- one member may be put last
pub one_last : (v : ℕ) (l : List ℕ) → count v l ≡ 1 → OrderOf l (without (v ∷ []) l ++ (v ∷ []))
one_last v l h = part-last l (v ∷ []) (λ i p. split (eqb i v)
    (λ e. let q : i ≡ v = eqb-true i v e in rw q (omega (arith, ap indicator (eqb_self v))))
    (λ e. absurd (omega (arith, ap indicator e))))
