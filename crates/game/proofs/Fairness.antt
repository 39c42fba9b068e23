-- THE THEOREM: a numerator of the closed formula, over the common denominator, is the average gain over all orders. How it is proved:
-- A gain of v is a sum over the buses u, of the weight of u where v is its pivot, the bus whose recorder makes u seen (`gain-pivots`).
-- So it is enough to count, for each u by itself, the orders in which v is the pivot (`gains`).
-- Joining: that depends only on how u and its d watchers stand among themselves, and each order of these d + 1 is found in equally many
-- orders of all players, so that their own orders are enough (`joining`, for a part of the players of any size).
-- Rank: in the orders of some players, each of them stands at each place equally often (`rank`).
-- Counting places: if u needs k watchers, u is its own pivot in min(k, d + 1) of d + 1 orders (`own-pivots`), each watcher is the pivot in
-- d + 1 - k of d (d + 1), and in none if k is above d (`watcher-pivots`), and any other bus in none (`far-pivots`).
-- Terms: times L and the weight of u, these are its own term, its neighbour term and 0 (`earned-right`); summed over u, the numerator (`numerator-earned`).
-- ---- a gain, bus by bus
use Rattle.std.specs.Prelude.{Bool, true, false, cond, not, ◌&&◌, List, ◌∷◌, ◌≡◌, ℕ, ◌+◌, ◌-◌, ◌*◌, ◌/◌, ◌<◌, min, eqb, leb, length}
use Rattle.std.proofs.Common.{sym, ap, ◌∙◌, mul_comm, mul-pos, sub-eq-zero_of_le, arith, eqb-true, leb-true, leb-false}
use Rattle.std.proofs.Math.Path.{◌≡⟨◌⟩◌, ◌∎}
use Rattle.std.proofs.Math.Nat.{min-eq_left, min-eq_right, eq_of_mul-eq-mul_right, div-mul_cancel}
use Rattle.lists.specs.Lists.{indicator, sum_by, count, ◌∈◌, has}
use Rattle.lists.specs.Below.{range}
use Rattle.lists.proofs.Tests.{split, eqb_self}
use Rattle.lists.proofs.Sums.{sum_by_cong, sum_by-add, sum_by_scale, sum_by-sub, sum_by_swap}
use Rattle.lists.proofs.Counts.{has_in, none_has, in_length, sum_by_cong_in, sum_by_single}
use Rattle.lists.proofs.SumsBelow.{in_range_lem}
use Rattle.lists.proofs.JoinBelow.{length-range}
use Rattle.game.specs.Orders.{orders, factorial, before}
use Rattle.game.specs.Game.{Game, degree, seen, value, gain, own_term, neighbour_term, own, neighbour, numerator, GameOn, Whole, Common, Fair}
use Rattle.game.proofs.Value.{seen_grows, worth_grows}
use Rattle.game.proofs.Terms.{own_whole}
use Rattle.game.proofs.EveryOrder.{every_order_once}
use Rattle.game.specs.Pivot.{pivot, pivots}
use Rattle.game.proofs.Pivot.{factorial_pos, own-pivots, watcher_pivots, far_pivots}
use Rattle.game.specs.Fairness.{earned}

worth_gained : (a b : Bool) (w : ℕ) → cond a w 0 - cond b w 0 ≡ w * indicator (a && not b)
worth_gained true true w = omega arith
worth_gained true false w = omega arith
worth_gained false true w = omega arith
worth_gained false false w = omega arith

pub gain-pivots : (g : Game) (ps : List ℕ) (v : ℕ) (l : List ℕ) → gain g ps v l ≡ sum_by (λ u. g.weight u * pivot g u v (before v l)) ps
unfolding gain value pivot
gain-pivots g ps v l =
    let s = before v l in
    sum_by-sub (λ u. worth_grows (seen g u s) (seen g u (v ∷ s)) (g.weight u) (seen_grows g u v s)) ps
    ∙ sum_by_cong (λ u. worth_gained (seen g u (v ∷ s)) (seen g u s) (g.weight u)) ps

gains : (g : Game) (ps : List ℕ) (v : ℕ) → sum_by (gain g ps v) (orders ps) ≡ sum_by (λ u. g.weight u * pivots g ps v u) ps
gains g ps v =
    sum_by_cong (gain-pivots g ps v) (orders ps)
    ∙ sum_by_swap (λ l u. g.weight u * pivot g u v (before v l)) (orders ps) ps
    ∙ sum_by_cong (λ u. sum_by_scale (g.weight u) (λ l. pivot g u v (before v l)) (orders ps)) ps

-- where the part earned at each bus is right, so is their sum
assemble : (g : Game) (ps : List ℕ) (L v : ℕ) (part : ℕ → ℕ)
    → ((u : ℕ) → u ∈ ps → part u * factorial (length ps) ≡ L * (g.weight u * pivots g ps v u))
    → sum_by part ps * factorial (length ps) ≡ L * sum_by (gain g ps v) (orders ps)
assemble g ps L v part h =
    let n = factorial (length ps) in
    let made : ℕ → ℕ = λ u. g.weight u * pivots g ps v u in
    sum_by part ps * n ≡⟨ mul_comm (sum_by part ps) n ∙ sym (sum_by_scale n part ps) ⟩
    sum_by (λ u. n * part u) ps ≡⟨ sum_by_cong_in ps (λ u hu. mul_comm n (part u) ∙ h u hu) ⟩
    sum_by (λ u. L * made u) ps ≡⟨ sum_by_scale L made ps ⟩
    L * sum_by made ps ≡⟨ ap (λ x. L * x) (sym (gains g ps v)) ⟩
    L * sum_by (gain g ps v) (orders ps) ∎

-- ---- the formula's terms

-- q is e parts in D of L, as N is of n
spread : (e q D N n L : ℕ) → 0 < D → q * D ≡ e * L → N * D ≡ n * e → q * n ≡ L * N
spread e q D N n L h a b =
    eq_of_mul-eq-mul_right D h (q * n) (L * N) (omega (arith, ap (λ x. x * n) a, ap (λ x. L * x) b))

own_right : (k d L N n : ℕ) → Whole k d L → N * (d + 1) ≡ n * min k (d + 1) → own_term k d L * n ≡ L * N
unfolding own_term
own_right k d L N n w e =
    split (leb k d)
    (λ t. let h = leb-true k d t in
    rw t (spread k (k * L / (d + 1)) (d + 1) N n L (omega arith) (div-mul_cancel (d + 1) (own_whole k d L h (w h)))
    (e ∙ ap (λ m. n * m) (min-eq_left {n = k} {m = d + 1} (omega arith)))))
    (λ t. let h = leb-false k d t in
    rw t (ap (λ m. L * m) (sym (eq_of_mul-eq-mul_right (d + 1) (omega arith) N n (e ∙ ap (λ m. n * m) (min-eq_right {n = d + 1} {m = k} (omega arith)))))))

neighbour_right : (k d L N n : ℕ) → 0 < d → Whole k d L → N * (d * (d + 1)) ≡ n * (d + 1 - k)
    → neighbour_term k d L * n ≡ L * N
unfolding neighbour_term
neighbour_right k d L N n hd w e =
    let D = d * (d + 1) in
    let positive : 0 < D = mul-pos hd (omega arith) in
    split (leb k d)
    (λ t. rw t (spread (d + 1 - k) ((d + 1 - k) * L / D) D N n L positive (div-mul_cancel D (w (leb-true k d t))) e))
    (λ t. let h = leb-false k d t in
    let none : N ≡ 0 = eq_of_mul-eq-mul_right D positive N 0
    (e ∙ ap (λ m. n * m) (sub-eq-zero_of_le {n = d + 1} {m = k} (omega arith)) ∙ omega arith) in
    rw t (omega (arith, ap (λ m. L * m) none)))

pub numerator-earned : (g : Game) (ps : List ℕ) (L v : ℕ) → count v ps ≡ 1 → numerator g ps v L ≡ sum_by (earned g L v) ps
unfolding numerator earned
numerator-earned g ps L v one =
    omega (
      arith,
      sum_by-add (λ u. own g L u * indicator (eqb v u)) (λ u. cond (has v (g.watchers u)) (neighbour g L u) 0) ps,
      sum_by_single (own g L) v ps,
      ap (λ c. own g L v * c) one,
    )

earned_right : (g : Game) (ps : List ℕ) → GameOn ps g → (L : ℕ) → Common ps g L → (v u : ℕ) → u ∈ ps
    → earned g L v u * factorial (length ps) ≡ L * (g.weight u * pivots g ps v u)
unfolding earned
earned_right g ps on L common v u hu =
    let ws = g.watchers u in
    let k = g.need u in
    let d = degree g u in
    let n = factorial (length ps) in
    let w = g.weight u in
    split (eqb v u)
    (λ e. rw (eqb-true v u e, eqb_self u, none_has u ws (on.watchers_other u hu))
    (omega (arith, ap (λ x. w * x) (own_right k d L (pivots g ps u u) n (common u hu) (own-pivots g ps on u hu)))))
    (λ e. split (has v ws)
    (λ t. let hv = has_in v ws t in
    rw (e, t)
    (omega (arith, ap (λ x. w * x) (neighbour_right k d L (pivots g ps v u) n (in_length v ws hv) (common u hu) (watcher_pivots g ps on u hu v hv)))))
    (λ t. rw (e, t) (omega (arith, ap (λ x. L * (w * x)) (far_pivots g ps v u e t)))))

-- THE THEOREM, for every list of players without repeats, every game on it, every common denominator and every player
pub fairness : (g : Game) (ps : List ℕ) → GameOn ps g → (L : ℕ) → Common ps g L → (v : ℕ) → v ∈ ps
    → numerator g ps v L * factorial (length ps) ≡ L * sum_by (gain g ps v) (orders ps)
fairness g ps on L common v hv =
    ap (λ x. x * factorial (length ps)) (numerator-earned g ps L v (omega (arith, on.once v)))
    ∙ assemble g ps L v (earned g L v) (earned_right g ps on L common v)

-- for the buses 0 to n - 1, whose orders are all there
pub fairness_buses : (n : ℕ) (g : Game) → GameOn (range n) g → (L : ℕ) → Common (range n) g L → (v : ℕ) → v < n
    → Fair n g L v (numerator g (range n) v L)
fairness_buses n g on L common v hv = record {
  every = every_order_once n;
  average =
      ap (λ m. numerator g (range n) v L * factorial m) (sym (length-range n))
      ∙ fairness g (range n) on L common v (in_range_lem v n hv);
}

-- over every common denominator the share is the same
pub any_denominator : (g : Game) (ps : List ℕ) → GameOn ps g → (L M : ℕ) → Common ps g L → Common ps g M → (v : ℕ) → v ∈ ps
    → numerator g ps v L * M ≡ numerator g ps v M * L
any_denominator g ps on L M over-L over-M v hv =
    eq_of_mul-eq-mul_right (factorial (length ps)) (factorial_pos (length ps)) _ _
    (omega (arith, ap (λ x. x * M) (fairness g ps on L over-L v hv), ap (λ x. x * L) (fairness g ps on M over-M v hv)))
