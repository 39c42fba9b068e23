-- Nothing is lost: the numerators of all players add up to the common denominator times their total weight.
use Rattle.std.proofs.Math.Bool.{cond}
use Rattle.std.specs.Prelude.{List, ◌≡◌}
use Rattle.std.proofs.Math.Path.{sym, ap}
use Rattle.std.proofs.Common.{◌∙◌, arith}
use Prim.Native.Nat.{ℕ, ◌+◌, ◌*◌}
use Rattle.lists.specs.Lists.{sum_by, ◌∈◌, has}
use Rattle.lists.proofs.Sums.{sum_by-add, sum_by_const, sum_by_scale, sum_by_swap}
use Rattle.lists.proofs.Counts.{sum_by_cong_in, sum_by-part}
use Rattle.game.specs.Game.{Game, degree, own, neighbour, numerator, GameOn, Common}
use Rattle.game.proofs.Terms.{terms_whole}

module _ (g : Game) (ps : List ℕ) (on : GameOn ps g) (L : ℕ) (common : Common ps g L) where
  -- what the watchers of u get for it
  watchers_get : (u : ℕ) → u ∈ ps → sum_by (λ v. cond (has v (g.watchers u)) (neighbour g L u) 0) ps ≡ degree g u * neighbour g L u
  watchers_get u hu =
      sum_by-part (λ v. neighbour g L u) ps (g.watchers u) on.once (on.watchers_once u hu) (on.watchers_inside u hu)
      ∙ sum_by_const (neighbour g L u) (g.watchers u)

  -- what is earned at u comes to L times its weight
  shared : (u : ℕ) → u ∈ ps → own g L u + sum_by (λ v. cond (has v (g.watchers u)) (neighbour g L u) 0) ps ≡ L * g.weight u
  shared u hu = omega (arith, watchers_get u hu, ap (λ n. g.weight u * n) (terms_whole (g.need u) (degree g u) L (common u hu)))

  pub total : sum_by (λ v. numerator g ps v L) ps ≡ L * sum_by g.weight ps
  unfolding numerator
  total =
      let paid : ℕ → ℕ → ℕ = λ v u. cond (has v (g.watchers u)) (neighbour g L u) 0 in
      sum_by-add (own g L) (λ v. sum_by (paid v) ps) ps
      ∙ ap (λ n. sum_by (own g L) ps + n) (sum_by_swap paid ps ps)
      ∙ sym (sum_by-add (own g L) (λ u. sum_by (λ v. paid v u) ps) ps)
      ∙ sum_by_cong_in ps shared
      ∙ sum_by_scale L g.weight ps
