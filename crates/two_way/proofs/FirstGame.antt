-- Need 1 and weight 1 everywhere give the first game of the paper that the scope builds on (Michalak and others, on game-theoretic network centrality): the sum of 1/(1+d) over the bus and its neighbours.
use Rattle.std.specs.Prelude.{List, ◌∷◌, ◌≡◌}
use Rattle.std.proofs.Common.{ap, ◌∙◌, add_comm, one-mul}
use Rattle.std.proofs.Math.Path.{ap₂}
use Prim.Native.Nat.{ℕ, ◌+◌, ◌/◌, ◌<◌}
use Rattle.lists.specs.Lists.{sum_by, ◌∈◌}
use Rattle.lists.proofs.Counts.{in_has, has_in, in_length, sum_by_cong_in}
use Rattle.game.specs.Game.{own, neighbour}
use Rattle.game.proofs.Terms.{own-one, neighbour-one}
use Rattle.table_spec.specs.Layout.{bus_count, row, degree, need, weight}
use Rattle.table_spec.specs.Holds.{Holds}
use Rattle.share_spec.specs.Network.{denominator}
use Rattle.share_spec.specs.Formula.{numerator_over, numerator}
use Rattle.share_spec.specs.TableNetwork.{game_of}
use Rattle.two_way.specs.TwoWay.{network_of}
use Rattle.two_way.proofs.TwoWaySound.{watching}

-- a neighbour has a neighbour
has-degree : {t : List ℕ} → Holds t → (v u : ℕ) → v < bus_count t → u < bus_count t → u ∈ row t v → 0 < degree t u
has-degree {t} w v u b c m = in_length v (row t u) (has_in v (row t u) ((watching w.shape w.mirrored).both u v c b ∙ in_has u (row t v) m))

module _ {t : List ℕ} (w : Holds t) (needs : (u : ℕ) → u < bus_count t → need t u ≡ 1) (weights : (u : ℕ) → u < bus_count t → weight t u ≡ 1) where
  abbrev L : ℕ
  L = denominator (network_of t)

  own-part : (v : ℕ) → v < bus_count t → own (game_of t) L v ≡ L / (1 + degree t v)
  own-part v b = rw (needs v b, weights v b) (one-mul _ ∙ own-one (degree t v) L ∙ ap (λ n. L / n) (add_comm (degree t v) 1))

  neighbour-part : (v u : ℕ) → v < bus_count t → u ∈ row t v → neighbour (game_of t) L u ≡ L / (1 + degree t u)
  neighbour-part v u b m =
      let c = (watching w.shape w.mirrored).inside v b u m in
      rw (needs u c, weights u c) (one-mul _ ∙ neighbour-one (degree t u) L (has-degree w v u b c m) ∙ ap (λ n. L / n) (add_comm (degree t u) 1))

  -- a bus without neighbours included; all are whole numbers, since each 1 + d divides L
  pub first_game : (v : ℕ) → v < bus_count t → numerator (network_of t) v ≡ sum_by (λ u. denominator (network_of t) / (1 + degree t u)) (v ∷ row t v)
  unfolding numerator_over
  first_game v b = ap₂ ◌+◌ (own-part v b) (sum_by_cong_in (row t v) (λ u m. neighbour-part v u b m))
