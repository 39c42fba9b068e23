-- The terms of a bus: the own one is what the neighbours leave of L, and none is above L.
use Rattle.std.specs.Prelude.{◌≡◌, ℕ, zero, suc, ◌+◌, ◌-◌, ◌*◌, ◌≤◌, leb}
use Rattle.std.proofs.Common.{ap, zero-le, mul-le-mul_right, arith}
use Rattle.std.proofs.Math.Nat.{div-zero, div-le_of_le-mul}
use Rattle.lists.proofs.Tests.{split}
use Rattle.game.specs.Game.{Game, degree, neighbour_term, own, neighbour, Whole}
use Rattle.game.proofs.Terms.{terms_whole}

pub term_le : (k d L : ℕ) → neighbour_term k d L ≤ L
unfolding neighbour_term
term_le k zero L = split (leb k 0) (λ e. rw e (omega (arith, div-zero ((1 - k) * L)))) (λ e. rw e zero-le)
term_le k (suc d) L =
    let D = suc d * (suc d + 1) in
    split (leb k (suc d))
    (λ e. rw e (div-le_of_le-mul D (mul-le-mul_right {m = suc d + 1 - k} {n = D} L (omega arith))))
    (λ e. rw e zero-le)

-- what seeing bus u is worth is L times its weight: each neighbour gets its term, and the bus the rest
pub own-rest : (g : Game) (L u : ℕ) → Whole (g.need u) (degree g u) L → own g L u + degree g u * neighbour g L u ≡ g.weight u * L
own-rest g L u w = omega (arith, ap (λ x. g.weight u * x) (terms_whole (g.need u) (degree g u) L w))
