-- Islands of a network, of whatever kind: their numerators add up, and taken out they have the same cancelled shares.
use Rattle.std.specs.Prelude.{List, ◌≡◌, ℕ, ◌*◌, ◌<◌, length}
use Rattle.std.proofs.Common.{sym, ap, ◌∙◌, arith}
use Rattle.lists.specs.Lists.{sum_by, ◌∈◌, at}
use Rattle.lists.specs.Below.{range}
use Rattle.lists.proofs.Counts.{sum_by_cong_in}
use Rattle.lists.proofs.Places.{in_at}
use Rattle.lists.proofs.SumsBelow.{of_range}
use Rattle.fraction.specs.Cancel.{cancelled}
use Rattle.fraction.proofs.LowestTerms.{cancelled-same}
use Rattle.game.specs.Parts.{Island, Renumbered}
use Rattle.game.proofs.Islands.{island_total, taken_out_share}
use Rattle.share_spec.specs.Network.{Network, denominator, Sound}
use Rattle.share_spec.specs.Formula.{numerator}
use Rattle.share_spec.proofs.FairFormula.{as_game}

module _ {N : Network} (w : Sound N) (is : List ℕ) (island : Island (range N.buses) is N.game) where
  bus : (u : ℕ) → u ∈ is → u < N.buses
  bus u i = of_range u N.buses (island.inside u i)

  -- to L times the island's weight
  pub island_sum : sum_by (numerator N) is ≡ denominator N * sum_by N.game.weight is
  island_sum =
      sum_by_cong_in is (λ v i. sym (as_game w.watching (denominator N) v (bus v i)))
      ∙ island_total N.game (range N.buses) is w.watching.on island (denominator N) w.whole

  -- M is the island alone: its bus u is bus `at is u` of N
  module _ {M : Network} (x : Sound M) (all : M.buses ≡ length is) (same : Renumbered (at is) (range M.buses) N.game M.game) where
    pub island_cancelled : (u : ℕ) → u < M.buses → cancelled (numerator N (at is u)) (denominator N) ≡ cancelled (numerator M u) (denominator M)
    island_cancelled u b =
        let L = denominator N in
        let K = denominator M in
        cancelled-same (numerator N (at is u)) L (numerator M u) K w.positive x.positive
        (ap (λ n. n * K) (sym (as_game w.watching L (at is u) (bus (at is u) (in_at is u (omega arith)))))
        ∙ taken_out_share N.game (range N.buses) is w.watching.on island M.game M.buses all x.watching.on same L K w.whole x.whole u b
        ∙ ap (λ n. n * L) (as_game x.watching K u b))
