-- Numbers of buses do not matter: a game by other numbers has the same numerators and gains.
use Rattle.std.proofs.Math.Bool.{cond, ◌||◌}
use Rattle.std.specs.Prelude.{List, [], ◌∷◌, map, ◌≡◌, refl, eqb, ltb}
use Rattle.std.proofs.Common.{sym, ◌∙◌, arith, eqb-true}
use Rattle.std.proofs.Math.Path.{ap, ap₂}
use Prim.Native.Nat.{ℕ, ◌+◌, ◌-◌, ◌*◌}
use Rattle.std.proofs.Math.Dec.{leb}
use Rattle.lists.specs.Lists.{indicator, sum_by, ◌∈◌, has, count_in}
use Rattle.lists.proofs.Tests.{split}
use Rattle.lists.proofs.Sums.{sum_by_ones, sum_by-map}
use Rattle.lists.proofs.Counts.{in_first, in_map, map-apart, count_map, sum_by_cong_in, sum_by-part}
use Rattle.game.specs.Orders.{orders, before}
use Rattle.game.specs.Game.{Game, degree, seen, value, gain, own_term, neighbour_term, neighbour, numerator, GameOn, Common}
use Rattle.game.specs.Parts.{Renumbered}
use Rattle.game.proofs.Arrange.{sum-orders, over_orders-map, over_orders_cong, count_order}
use Rattle.game.proofs.Pivot.{count-before-le}

module _ (f : ℕ → ℕ) (qs : List ℕ) (g h : Game) (whole : GameOn (map f qs) g) (on : GameOn qs h) (same : Renumbered f qs g h) where
  apart : (u v : ℕ) → u ∈ qs → v ∈ qs → eqb (f u) (f v) ≡ eqb u v
  apart = map-apart f qs whole.once

  -- ---- watchers

  -- a sum over the watchers of a bus, by either numbers
  along_watchers : (F : ℕ → ℕ) (u : ℕ) → u ∈ qs → sum_by F (g.watchers (f u)) ≡ sum_by (λ w. F (f w)) (h.watchers u)
  along_watchers F u hu =
      let ws = g.watchers (f u) in
      let fu = in_map f u qs hu in
      sym (sum_by-part F (map f qs) ws whole.once (whole.watchers_once (f u) fu) (whole.watchers_inside (f u) fu))
      ∙ sum_by-map (λ x. cond (has x ws) (F x) 0) f qs
      ∙ sum_by_cong_in qs (λ w i. ap (λ b. cond b (F (f w)) 0) (sym (same.watchers u hu w i)))
      ∙ sum_by-part (λ w. F (f w)) qs (h.watchers u) on.once (on.watchers_once u hu) (on.watchers_inside u hu)

  same-degree : (u : ℕ) → u ∈ qs → degree g (f u) ≡ degree h u
  same-degree u hu = sym (sum_by_ones (g.watchers (f u))) ∙ along_watchers (λ x. 1) u hu ∙ sum_by_ones (h.watchers u)

  -- ---- numerators

  pub renumbered_common : (L : ℕ) → Common (map f qs) g L → Common qs h L
  renumbered_common L common u hu = rw (same.needs u hu, ← same-degree u hu) (common (f u) (in_map f u qs hu))

  -- either term
  same_term : (term : ℕ → ℕ → ℕ → ℕ) (L u : ℕ) → u ∈ qs → g.weight (f u) * term (g.need (f u)) (degree g (f u)) L ≡ h.weight u * term (h.need u) (degree h u) L
  same_term term L u hu = rw (same.needs u hu, same.weights u hu, same-degree u hu)

  pub renumbered_numerator : (L v : ℕ) → v ∈ qs → numerator g (map f qs) (f v) L ≡ numerator h qs v L
  unfolding numerator
  renumbered_numerator L v hv =
      ap₂ ◌+◌ (same_term own_term L v hv)
      (sum_by-map (λ u. cond (has (f v) (g.watchers u)) (neighbour g L u) 0) f qs
      ∙ sum_by_cong_in qs (λ u hu. ap₂ (λ b n. cond b n 0) (sym (same.watchers u hu v hv)) (same_term neighbour_term L u hu)))

  -- ---- gains

  module _ (s : List ℕ) (known : (i : ℕ) → i ∈ s → i ∈ qs) where
    same_member : (x : ℕ) → x ∈ qs → has (f x) (map f s) ≡ has x s
    same_member x hx = ap (ltb 0) (count_map f x s (λ y i. apart x y hx (known y i)))

    same_seen : (u : ℕ) → u ∈ qs → seen g (f u) (map f s) ≡ seen h u s
    unfolding seen
    same_seen u hu =
        let carried : count_in (map f s) (g.watchers (f u)) ≡ count_in s (h.watchers u) =
        along_watchers (λ x. indicator (has x (map f s))) u hu
        ∙ sum_by_cong_in (h.watchers u) (λ w i. ap indicator (same_member w (on.watchers_inside u hu w i))) in
        ap₂ ◌||◌ (same_member u hu) (ap₂ leb (sym (same.needs u hu)) carried)

    same-value : value g (map f qs) (map f s) ≡ value h qs s
    unfolding value
    same-value =
        sum_by-map (λ u. cond (seen g u (map f s)) (g.weight u) 0) f qs
        ∙ sum_by_cong_in qs (λ u hu. ap₂ (λ b w. cond b w 0) (same_seen u hu) (sym (same.weights u hu)))

  same-before : (v : ℕ) → v ∈ qs → (l : List ℕ) → ((i : ℕ) → i ∈ l → i ∈ qs) → before (f v) (map f l) ≡ map f (before v l)
  same-before v hv [] known = refl
  same-before v hv (x ∷ l) known =
      split (eqb v x)
      (λ e. rw (apart v x hv (known x (in_first x l)), e))
      (λ e. rw (apart v x hv (known x (in_first x l)), e) (ap (λ m. f x ∷ m) (same-before v hv l (λ i m. known i (omega arith)))))

  -- in every order
  pub renumbered_gain : (v : ℕ) → v ∈ qs → (l : List ℕ) → ((i : ℕ) → i ∈ l → i ∈ qs) → gain g (map f qs) (f v) (map f l) ≡ gain h qs v l
  unfolding gain
  renumbered_gain v hv l known =
      let s = before v l in
      let behind : (i : ℕ) → i ∈ s → i ∈ qs = λ i m. known i (omega (arith, count-before-le i v l)) in
      rw (same-before v hv l known)
      (ap₂ ◌-◌
      (same-value (v ∷ s) (λ i m. split (eqb i v) (λ e. rw (eqb-true i v e) hv) (λ e. behind i (omega (arith, ap indicator e)))))
      (same-value s behind))

  -- so over all orders
  pub renumbered_gains : (v : ℕ) → v ∈ qs → sum_by (gain g (map f qs) (f v)) (orders (map f qs)) ≡ sum_by (gain h qs v) (orders qs)
  renumbered_gains v hv =
      sum-orders (map f qs) (gain g (map f qs) (f v))
      ∙ over_orders-map f qs (gain g (map f qs) (f v))
      ∙ over_orders_cong qs (λ l o. renumbered_gain v hv l (λ i m. omega (arith, count_order o i)))
      ∙ sym (sum-orders qs (gain h qs v))
