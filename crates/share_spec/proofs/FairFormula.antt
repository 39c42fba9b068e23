-- THE THEOREM on networks: over every L that makes the terms whole the closed formula is fair to every bus, and nothing is lost.
use Rattle.std.specs.Prelude.{Bool, ◌≡◌, ℕ, ◌+◌, ◌*◌, ◌<◌}
use Rattle.std.proofs.Math.Bool.{cond}
use Rattle.std.proofs.Math.Path.{sym, ap}
use Rattle.std.proofs.Common.{ap₂, subst, ◌∙◌, arith}
use Rattle.lists.specs.Lists.{has}
use Rattle.lists.specs.Below.{sum_below, range}
use Rattle.lists.proofs.Counts.{sum_by_cong_in, sum_by-part}
use Rattle.lists.proofs.Places.{ascending_once}
use Rattle.lists.proofs.SumsBelow.{sum_by-range, in_range_lem, of_range, range_once}
use Rattle.lists.proofs.ListBelow.{has-list_below, of_list_below, list_below_ascends}
use Rattle.game.specs.Game.{own, neighbour, GameOn, Fair, numerator as formula}
use Rattle.game.proofs.Fairness.{fairness_buses}
use Rattle.game.proofs.Total.{total}
use Rattle.share_spec.specs.Network.{Network, denominator, total_weight, converse, Watching, WholeOver, Sound}
use Rattle.share_spec.specs.Formula.{numerator_over, numerator, FairShare}
use Rattle.share_spec.proofs.Denominator.{common_denominator}

-- where the buses that v watches are found by their lists of watchers, they are as they should be
pub watching-converse : (N : Network) → N.watched ≡ converse N.buses N.game.watchers → GameOn (range N.buses) N.game → Watching N
watching-converse N e on =
    let leads : ℕ → ℕ → Bool = λ v u. has v (N.game.watchers u) in
    record {
      on = on;
      once = λ v b. rw e (ascending_once _ (list_below_ascends N.buses (leads v)));
      inside = λ v b u m. (of_list_below N.buses (leads v) u (rw e at m)).0;
      both = λ u v b c. rw e (sym (has-list_below (leads v) b));
    }

module _ {N : Network} (w : Watching N) (L : ℕ) where
  -- what v gets for the buses that it watches, bus by bus or along its list: the scope's formula is the game's
  pub as_game : (v : ℕ) → v < N.buses → formula N.game (range N.buses) v L ≡ numerator_over N L v
  unfolding formula numerator_over
  as_game v b =
      let n = N.buses in
      ap (λ x. own N.game L v + x)
      (sum_by_cong_in (range n) (λ u i. ap (λ c. cond c (neighbour N.game L u) 0) (w.both u v (of_range u n i) b))
      ∙ sum_by-part (neighbour N.game L) (range n) (N.watched v) (range_once n) (w.once v b) (λ u m. in_range_lem u n (w.inside v b u m)))

  module _ (common : WholeOver N L) where
    -- FAIRNESS
    pub fair_over : (v : ℕ) → v < N.buses → Fair N.buses N.game L v (numerator_over N L v)
    fair_over v b = subst (Fair N.buses N.game L v) (as_game v b) (fairness_buses N.buses N.game w.on L common v b)

    -- and all numerators add up to L times the total weight
    pub whole_over : sum_below N.buses (numerator_over N L) ≡ L * total_weight N
    unfolding total_weight
    whole_over =
        let n = N.buses in
        sym (sum_by-range (numerator_over N L) n)
        ∙ sum_by_cong_in (range n) (λ v i. sym (as_game v (of_range v n i)))
        ∙ total N.game (range n) w.on L common
        ∙ ap (λ x. L * x) (sum_by-range N.game.weight n)

-- networks of whatever kind that play the same game have the same shares
pub same_game : {N M : Network} → Watching N → Watching M → N.buses ≡ M.buses → N.game ≡ M.game → (L v : ℕ) → v < N.buses
    → numerator_over N L v ≡ numerator_over M L v
same_game {N} {M} w x e f L v b =
    sym (as_game w L v b) ∙ ap₂ (λ n g. formula g (range n) v L) e f ∙ as_game x L v (omega arith)

-- over the network's own L
module _ {N : Network} (w : Sound N) where
  pub fair : (v : ℕ) → v < N.buses → FairShare N (denominator N) v (numerator N v)
  fair v b = record { over = common_denominator N; average = fair_over w.watching (denominator N) w.whole v b }

  pub whole : sum_below N.buses (numerator N) ≡ denominator N * total_weight N
  whole = whole_over w.watching (denominator N) w.whole
