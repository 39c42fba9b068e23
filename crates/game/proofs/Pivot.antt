-- In how many orders the recorder at v is the one that makes a bus u seen.
use Rattle.std.specs.Prelude.{false, not, ◌&&◌, List, [], ◌∷◌, ◌++◌, ◌≡◌, refl, ℕ, zero, suc, ◌+◌, ◌-◌, ◌*◌, ◌≤◌, ◌<◌, min, eqb, ltb, leb, length}
use Rattle.std.proofs.Math.Bool.{and-false, and-not_self}
use Rattle.std.proofs.Common.{sym, ap, ap₂, ◌∙◌, zero-add, mul-zero, mul-pos, zero-lt-suc, add-one, arith, length-append, eq-eqb, eqb-true, ne_eqb, ltb-false, leb-true, leb-false, le-leb}
use Rattle.std.proofs.Math.Nat.{eq_of_mul-eq-mul_right}
use Rattle.std.proofs.lemmas.Bool.{eqb-false, lt-leb}
use Rattle.lists.specs.Lists.{indicator, count, ◌∈◌, has, Once, count_in, without}
use Rattle.lists.specs.Below.{sum_below, count_below}
use Rattle.lists.proofs.Tests.{split, eqb_self, eqb_comm}
use Rattle.lists.proofs.Sums.{sum_by_cong, sum_by-zero}
use Rattle.lists.proofs.Counts.{in_has, has-none, in_first, count-append, sum_by_cong_in, count_in-all, count_in_comm, count_in_more}
use Rattle.lists.proofs.SumsBelow.{sum_below_single}
use Rattle.game.specs.Orders.{orders, factorial, before, Ignores}
use Rattle.game.specs.Game.{Game, degree, seen, GameOn}
use Rattle.game.specs.Arrange.{over_insertions, over_orders, OrderOf}
use Rattle.game.proofs.Arrange.{sum-orders, over_insertions_cong, over_orders_cong, over_orders_order, inserted_in, count_order, length_order, order_of_counts}
use Rattle.game.proofs.Joining.{over_insertions_const, over_insertions-before, before_ignores, joining, one_last}
use Rattle.game.proofs.Rank.{rank}
use Rattle.game.specs.Pivot.{pivot, pivots}

-- ---- what stands before v

pub count-before-le : (i v : ℕ) (l : List ℕ) → count i (before v l) ≤ count i l
count-before-le i v [] = omega arith
count-before-le i v (y ∷ l) = split (eqb v y) (λ e. rw e (omega arith)) (λ e. rw e (omega (arith, count-before-le i v l)))

count-before_self : (v : ℕ) (l : List ℕ) → count v (before v l) ≡ 0
count-before_self v [] = refl
count-before_self v (y ∷ l) = split (eqb v y) (λ e. rw e) (λ e. rw e (rw e (omega (arith, count-before_self v l))))

-- in an order of watchers b and v, as many watchers stand before v as players do
before_watchers : (ws b : List ℕ) (v : ℕ) → Once ws → Once (b ++ (v ∷ [])) → ((i : ℕ) → i ∈ b → i ∈ ws) → {l : List ℕ} → OrderOf (b ++ (v ∷ [])) l
    → count_in (before v l) ws ≡ length (before v l)
before_watchers ws b v once-ws once-b h {l} o =
    count_in_comm (before v l) ws (λ i. omega (arith, count-before-le i v l, count_order o i, once-b i)) once-ws
    ∙ count_in-all ws (before v l) (λ i p. h i
    (split (eqb i v)
    (λ e. absurd (omega (arith, count-before_self v l, ap (λ j. count j (before v l)) (eqb-true i v e))))
    (λ e. omega (arith, ap indicator e, count-before-le i v l, count_order o i, count-append i b (v ∷ [])))))

-- ---- the cases of a pivot

count_ignores : (x r : ℕ) → eqb x r ≡ false → (p s : List ℕ) → count x (p ++ r ∷ s) ≡ count x (p ++ s)
count_ignores x r e p s = omega (arith, count-append x p (r ∷ s), count-append x p s, ap indicator e)

count_in_ignores : (l : List ℕ) (r : ℕ) → count r l ≡ 0 → (p s : List ℕ) → count_in (p ++ r ∷ s) l ≡ count_in (p ++ s) l
count_in_ignores l r h p s =
    sum_by_cong_in l (λ x hx. ap (λ c. indicator (ltb 0 c)) (count_ignores x r (ne_eqb x r (λ q. omega (arith, ap (λ i. count i l) q))) p s))

-- a bus that neither is u nor watches it changes nothing
seen_ignores : (g : Game) (u r : ℕ) → eqb u r ≡ false → count r (g.watchers u) ≡ 0 → (p s : List ℕ) → seen g u (p ++ r ∷ s) ≡ seen g u (p ++ s)
unfolding seen
seen_ignores g u r e h p s = cc (count_ignores u r e p s, count_in_ignores (g.watchers u) r h p s)

pub pivot_ignores : (g : Game) (u v r : ℕ) → eqb u r ≡ false → count r (g.watchers u) ≡ 0 → Ignores r (pivot g u v)
unfolding pivot
pivot_ignores g u v r e h p s =
    ap₂ (λ a b. indicator (a && not b)) (seen_ignores g u r e h (v ∷ p) s) (seen_ignores g u r e h p s)

pub pivot_far : (g : Game) (u v : ℕ) (s : List ℕ) → eqb u v ≡ false → count v (g.watchers u) ≡ 0 → pivot g u v s ≡ 0
unfolding pivot
pivot_far g u v s e h =
    ap (λ b. indicator (b && not (seen g u s))) (seen_ignores g u v e h [] s) ∙ ap indicator (and-not_self (seen g u s))

-- a bus that carries a recorder is seen already
pivot_fitted : (g : Game) (u v : ℕ) (s : List ℕ) → u ∈ s → pivot g u v s ≡ 0
unfolding pivot seen
pivot_fitted g u v s h = rw (in_has u s h) (ap indicator (and-false (seen g u (v ∷ s))))

-- u's own recorder makes it seen where fewer than its need of its watchers carry one
pivot-own : (g : Game) (u : ℕ) (s : List ℕ) → count u s ≡ 0 → pivot g u u s ≡ indicator (not (leb (g.need u) (count_in s (g.watchers u))))
unfolding pivot seen
pivot-own g u s h = rw (eqb_self u, h)

step_test : (k h : ℕ) → 0 < k → indicator (leb k (1 + h) && not (leb k h)) ≡ indicator (eqb (k - 1) h)
step_test k h p =
    split (eqb (k - 1) h)
    (λ e. let q : k - 1 ≡ h = eqb-true (k - 1) h e in rw (e, le-leb k (1 + h) (omega arith), lt-leb k h (omega arith)))
    (λ e. split (leb k h)
    (λ t. let q : k ≤ h = leb-true k h t in rw (e, t, le-leb k (1 + h) (omega arith)))
    (λ t. let q : h < k = leb-false k h t in let n : k - 1 ≡ h → ⊥ = eqb-false (k - 1) h e in rw (e, t, lt-leb k (1 + h) (omega (arith, n)))))

-- a watcher's recorder does where just one less than the need carry one, and u does not
pivot_watcher : (g : Game) (u v : ℕ) (s : List ℕ) → 0 < g.need u → eqb u v ≡ false → count v (g.watchers u) ≡ 1 → count u s ≡ 0 → count v s ≡ 0
    → pivot g u v s ≡ indicator (eqb (g.need u - 1) (count_in s (g.watchers u)))
unfolding pivot seen
pivot_watcher g u v s hk e one z y =
    rw (count_in_more v s (g.watchers u) y, one, e, z) (step_test (g.need u) (count_in s (g.watchers u)) hk)

-- ---- counting the orders

pub factorial_pos : (n : ℕ) → 0 < factorial n
factorial_pos zero = omega arith
factorial_pos (suc n) = mul-pos (zero-lt-suc n) (factorial_pos n)

-- min k n numbers below n are below k
below-need : (k n : ℕ) → count_below n (λ j. not (leb k j)) ≡ min k n
unfolding sum_below
below-need k zero = omega arith
below-need k (suc n) =
    split (leb k n)
    (λ e. omega (arith, ap (λ b. indicator (not b)) e, leb-true k n e, below-need k n))
    (λ e. omega (arith, ap (λ b. indicator (not b)) e, leb-false k n e, below-need k n))

places_behind : (j n : ℕ) → sum_below n (λ i. (n - i) * indicator (eqb j i)) ≡ n - j
places_behind j n =
    sum_below_single (λ i. n - i) j n
    ∙ split (ltb j n) (λ e. rw e (omega arith)) (λ e. rw e (omega (arith, ltb-false j n e)))

pub far_pivots : (g : Game) (ps : List ℕ) (v u : ℕ) → eqb v u ≡ false → has v (g.watchers u) ≡ false → pivots g ps v u ≡ 0
far_pivots g ps v u e h =
    sum_by_cong (λ l. pivot_far g u v (before v l) (eqb_comm u v ∙ e) (has-none v (g.watchers u) h)) (orders ps)
    ∙ sum_by-zero (orders ps)

module _ (g : Game) (ps : List ℕ) (on : GameOn ps g) (u : ℕ) (hu : u ∈ ps) where
  abbrev ws : List ℕ
  ws = g.watchers u

  abbrev d : ℕ
  d = degree g u

  closed_once : Once (u ∷ ws)
  closed_once i =
      split (eqb i u)
      (λ e. omega (arith, ap indicator e, ap (λ j. count j ws) (eqb-true i u e), on.watchers_other u hu))
      (λ e. omega (arith, ap indicator e, on.watchers_once u hu i))

  -- the orders of u and its watchers decide
  closed : (v : ℕ) → v ∈ (u ∷ ws)
      → pivots g ps v u * factorial (suc d) ≡ factorial (length ps) * over_orders (u ∷ ws) (λ l. pivot g u v (before v l))
  closed v hv =
      joining ps (u ∷ ws) inside (λ l. pivot g u v (before v l))
      (λ r p. before_ignores r v (ne_eqb v r (λ q. omega (arith, ap (λ i. count i (u ∷ ws)) q)))
      (pivot g u v)
      (pivot_ignores g u v r (ne_eqb u r (λ q. omega (arith, ap indicator (eq-eqb r u (sym q))))) (omega arith)))
      ∙ ap (λ n. factorial (length ps) * n) (sum-orders (u ∷ ws) (λ l. pivot g u v (before v l)))
    where
      player : (i : ℕ) → i ∈ (u ∷ ws) → i ∈ ps
      player i p =
          split (eqb i u)
          (λ e. omega (arith, hu, ap (λ j. count j ps) (eqb-true i u e)))
          (λ e. on.watchers_inside u hu i (omega (arith, ap indicator e)))

      inside : (i : ℕ) → i ∈ (u ∷ ws) → count i (u ∷ ws) ≡ count i ps
      inside i p = omega (arith, player i p, closed_once i, on.once i)

  -- u makes itself seen in min k (d + 1) of d + 1 orders: fewer than k of its d watchers stand before it
  pub own-pivots : pivots g ps u u * (d + 1) ≡ factorial (length ps) * min (g.need u) (d + 1)
  own-pivots =
      eq_of_mul-eq-mul_right (factorial d) (factorial_pos d) _ _
      (omega (arith, closed u (in_first u ws), ap (λ n. factorial (length ps) * n) counted))
    where
      counted : over_orders (u ∷ ws) (λ l. pivot g u u (before u l)) ≡ factorial d * min (g.need u) (d + 1)
      counted =
          over_orders_order (order_of_counts (u ∷ ws) (ws ++ (u ∷ [])) (λ i. omega (arith, count-append i ws (u ∷ [])))) (λ l. pivot g u u (before u l))
          ∙ over_orders_cong (ws ++ (u ∷ [])) (λ l o. pivot-own g u (before u l) (count-before_self u l)
          ∙ ap (λ n. indicator (not (leb (g.need u) n)))
          (before_watchers ws ws u (on.watchers_once u hu) (λ i. omega (arith, closed_once i, count-append i ws (u ∷ []))) (λ i p. p) o))
          ∙ rank u ws (on.watchers_other u hu) (λ n. indicator (not (leb (g.need u) n)))
          ∙ ap (λ n. factorial d * n) (below-need (g.need u) (suc d) ∙ ap (min (g.need u)) (sym (add-one d)))

  module _ (v : ℕ) (hv : v ∈ ws) where
    -- u's watchers without v
    abbrev others : List ℕ
    others = without (v ∷ []) ws

    v_last : OrderOf ws (others ++ (v ∷ []))
    v_last = one_last v ws (omega (arith, on.watchers_once u hu v))

    d-others : d ≡ suc (length others)
    d-others = omega (arith, length_order v_last, length-append others (v ∷ []))

    apart : eqb v u ≡ false
    apart = ne_eqb v u (λ q. omega (arith, on.watchers_other u hu, ap (λ i. count i ws) q))

    -- u put into an order of its watchers: v makes it seen where one less than its need stand before v, and u behind v
    places : (l : List ℕ) → OrderOf (others ++ (v ∷ [])) l
        → over_insertions u l (λ r. pivot g u v (before v r))
        ≡ (suc (length others) - length (before v l)) * indicator (eqb (g.need u - 1) (length (before v l)))
    places l o =
        over_insertions-before u v apart l (pivot g u v)
        ∙ ap₂ ◌+◌ u_before (ap₂ (λ x y. (x - length (before v l)) * y) long u_behind)
        ∙ zero-add _
      where
        long : length l ≡ suc (length others)
        long = omega (arith, length_order o, length-append others (v ∷ []))

        u_before : over_insertions u (before v l) (pivot g u v) ≡ 0
        u_before =
            over_insertions_cong (before v l) (λ r i. pivot_fitted g u v r (inserted_in i))
            ∙ over_insertions_const u (before v l) 0
            ∙ mul-zero (suc (length (before v l)))

        u_behind : pivot g u v (before v l) ≡ indicator (eqb (g.need u - 1) (length (before v l)))
        u_behind =
            pivot_watcher g u v (before v l) (on.needs u hu) (eqb_comm u v ∙ apart) (omega (arith, on.watchers_once u hu v))
            (omega (arith, count-before-le u v l, count_order o u, count_order v_last u, on.watchers_other u hu)) (count-before_self v l)
            ∙ ap (λ n. indicator (eqb (g.need u - 1) n)) (before_watchers ws others v (on.watchers_once u hu)
            (λ i. omega (arith, count_order v_last i, on.watchers_once u hu i))
            (λ i p. omega (arith, count_order v_last i, count-append i others (v ∷ []))) o)

    counted : over_orders (u ∷ ws) (λ l. pivot g u v (before v l)) ≡ factorial (length others) * (suc (length others) - (g.need u - 1))
    counted =
        over_orders_order v_last (λ l. over_insertions u l (λ r. pivot g u v (before v r)))
        ∙ over_orders_cong (others ++ (v ∷ [])) places
        ∙ rank v others (omega (arith, count_order v_last v, count-append v others (v ∷ []), in_first v [], on.watchers_once u hu v))
        (λ i. (suc (length others) - i) * indicator (eqb (g.need u - 1) i))
        ∙ ap (λ n. factorial (length others) * n) (places_behind (g.need u - 1) (suc (length others)))

    -- a watcher v makes u seen in d + 1 - k of d (d + 1) orders: just k - 1 others of its d watchers stand before v, and u behind v
    pub watcher_pivots : pivots g ps v u * (d * (d + 1)) ≡ factorial (length ps) * (d + 1 - g.need u)
    watcher_pivots =
        let n = factorial (length ps) in
        let m = factorial (length others) in
        let whole : factorial d ≡ d * m = ap factorial d-others ∙ ap (λ x. x * m) (sym d-others) in
        let places : suc (length others) - (g.need u - 1) ≡ d + 1 - g.need u = omega (arith, on.needs u hu, d-others) in
        eq_of_mul-eq-mul_right m (factorial_pos (length others)) _ _
        (omega (
          arith,
          ap (λ x. pivots g ps v u * (suc d * x)) whole,
          closed v (omega (arith, hv)),
          ap (λ x. n * x) counted,
          ap (λ x. n * (m * x)) places,
        ))
