-- The game by reach: where a bus is seen, common denominators, shares and islands.
use Rattle.std.specs.Prelude.{cond, not, ◌&&◌, List, [], ◌∷◌, ◌++◌, map, ◌≡◌, refl, ℕ, ◌+◌, ◌*◌, ◌/◌, ◌≤◌, eqb, ltb, length}
use Rattle.std.proofs.Common.{sym, ap₂, ◌∙◌, arith, length-append}
use Rattle.std.proofs.Math.Path.{ap}
use Rattle.std.specs.Int.{◌∣◌}
use borrow.Author.Tests.{eqb-true, lt-ltb}
use Rattle.lists.specs.Lists.{indicator, sum_by, count, ◌∈◌, has, Once, count_in, without}
use Rattle.lists.proofs.Tests.{split, eqb_self}
use Rattle.lists.proofs.Sums.{sum_by-append}
use Rattle.lists.proofs.Counts.{in_has, has_in, none_has, in_length, map-apart, count-without, sum_by_cong_in}
use Rattle.game.specs.Game.{seen, numerator, GameOn, Common}
use Rattle.game.specs.Parts.{Island, Renumbered}
use Rattle.game.specs.CrowdGame.{reach, Crowds}
use Rattle.game.specs.Arrange.{OrderOf}
use Rattle.game.proofs.Arrange.{sum_by_order, length_order}
use Rattle.game.proofs.Joining.{one_last}
use Rattle.game.proofs.Terms.{whole_one, own-one, neighbour-one}
use Rattle.game.specs.Fairness.{earned}
use Rattle.game.proofs.Fairness.{numerator-earned}

-- the others of a crowd
count-others : (x u : ℕ) (c : List ℕ) → count x (without (u ∷ []) c) ≡ cond (eqb x u) 0 (count x c)
count-others x u c = split (eqb x u) (λ e. count-without x (u ∷ []) c ∙ rw e) (λ e. count-without x (u ∷ []) c ∙ rw e)

has-others : (x u : ℕ) (c : List ℕ) → has x (without (u ∷ []) c) ≡ (not (eqb x u) && has x c)
has-others x u c = ap (ltb 0) (count-others x u c) ∙ split (eqb x u) (λ e. rw e) (λ e. rw e)

others-le : (x u : ℕ) (c : List ℕ) → count x (without (u ∷ []) c) ≤ count x c
others-le x u c = rw (count-others x u c) (split (eqb x u) (λ e. rw e (omega arith)) (λ e. rw e (omega arith)))

-- ---- the game

module _ (ps : List ℕ) (crowd : ℕ → List ℕ) (weight : ℕ → ℕ) (crowds : Crowds ps crowd) where
  -- the others of u's crowd, which watch it
  abbrev others : ℕ → List ℕ
  others u = (reach crowd weight).watchers u

  pub reach_on : GameOn ps (reach crowd weight)
  reach_on = record {
    once = crowds.once;
    needs = λ u i. omega arith;
    watchers_once = λ u i x. omega (arith, others-le x u (crowd u), crowds.crowd_once u i x);
    watchers_inside = λ u i x m. crowds.crowd_inside u i x (omega (arith, others-le x u (crowd u)));
    watchers_other = λ u i. rw (eqb_self u) at (count-others u u (crowd u));
  }

  -- a bus may be put behind the others of its crowd
  own-last : (u : ℕ) → u ∈ ps → OrderOf (crowd u) (others u ++ (u ∷ []))
  own-last u i = one_last u (crowd u) (omega (arith, crowds.crowd_once u i u, crowds.crowd_own u i))

  crowd_size : (u : ℕ) → u ∈ ps → length (others u) + 1 ≡ length (crowd u)
  crowd_size u i = omega (arith, length_order (own-last u i), length-append (others u) (u ∷ []))

  -- what every crowd's size divides is a common denominator
  pub reach_common : (L : ℕ) → ((u : ℕ) → u ∈ ps → length (crowd u) ∣ L) → Common ps (reach crowd weight) L
  reach_common L h u i = whole_one (length (others u)) L (rw (crowd_size u i) (h u i))

  -- a bus is seen just where one of its crowd carries a recorder
  pub reach-seen : (u : ℕ) → u ∈ ps → (s : List ℕ) → seen (reach crowd weight) u s ≡ ltb 0 (count_in s (crowd u))
  unfolding seen
  reach-seen u i s =
      let ws = others u in
      let all : count_in s (crowd u) ≡ count_in s ws + indicator (has u s) =
      omega (arith, sum_by_order (own-last u i) (λ x. indicator (has x s)), sum_by-append (λ x. indicator (has x s)) ws (u ∷ [])) in
      split (has u s)
      (λ e. rw (e, lt-ltb 0 (count_in s (crowd u)) (omega (arith, ap indicator e))))
      (λ e. let rest : count_in s (crowd u) ≡ count_in s ws = omega (arith, ap indicator e) in rw (e, rest))

  -- what v earns at u, of whose crowd it is or not
  earned_crowd : (L v u : ℕ) → u ∈ ps → earned (reach crowd weight) L v u ≡ cond (has v (crowd u)) (weight u * (L / length (crowd u))) 0
  unfolding earned
  earned_crowd L v u i =
      let ws = others u in
      split (eqb v u)
      (λ e. rw (eqb-true v u e, eqb_self u, none_has u ws (reach_on.watchers_other u i), in_has u (crowd u) (crowds.crowd_own u i), ← crowd_size u i)
      (omega (arith, ap (λ n. weight u * n) (own-one (length ws) L))))
      (λ e. let same : has v ws ≡ has v (crowd u) = rw e at (has-others v u (crowd u)) in
      split (has v (crowd u))
      (λ t. rw (e, same, t, ← crowd_size u i)
      (omega (arith, ap (λ n. weight u * n) (neighbour-one (length ws) L (in_length v ws (has_in v ws (same ∙ t)))))))
      (λ t. rw (e, same, t) (omega arith)))

  -- THE SHARE by reach: 1 over its size for each crowd that v is of
  pub reach-numerator : (L v : ℕ) → v ∈ ps
      → numerator (reach crowd weight) ps v L ≡ sum_by (λ u. cond (has v (crowd u)) (weight u * (L / length (crowd u))) 0) ps
  reach-numerator L v hv =
      numerator-earned (reach crowd weight) ps L v (omega (arith, crowds.once v)) ∙ sum_by_cong_in ps (earned_crowd L v)

-- ---- islands

-- no crowd crosses an island's edge
pub reach_island : (ps is : List ℕ) (crowd : ℕ → List ℕ) (weight : ℕ → ℕ) → Once is → ((u : ℕ) → u ∈ is → u ∈ ps)
    → ((u : ℕ) → u ∈ ps → (w : ℕ) → w ∈ crowd u → has w is ≡ has u is) → Island ps is (reach crowd weight)
reach_island ps is crowd weight once inside uncrossed =
    record { once = once; inside = inside; uncrossed = λ u i w m. uncrossed u i w (omega (arith, others-le w u (crowd u))) }

-- by other numbers it is enough that crowds agree
pub reach_renumbered : (f : ℕ → ℕ) (qs : List ℕ) (crowd crowd' : ℕ → List ℕ) (weight weight' : ℕ → ℕ) → Once (map f qs)
    → ((u : ℕ) → u ∈ qs → (w : ℕ) → w ∈ qs → has w (crowd' u) ≡ has (f w) (crowd (f u)))
    → ((u : ℕ) → u ∈ qs → weight' u ≡ weight (f u))
    → Renumbered f qs (reach crowd weight) (reach crowd' weight')
reach_renumbered f qs crowd crowd' weight weight' once crowds weights = record {
  watchers = λ u i w j. has-others w u (crowd' u)
      ∙ ap₂ (λ a b. not a && b) (sym (map-apart f qs once w u j i)) (crowds u i w j)
      ∙ sym (has-others (f w) (f u) (crowd (f u)));
  needs = λ u i. refl;
  weights = weights;
}
