-- The term of a bus by its unit: d(d+1) units are L, where a bus has d neighbours.
use Rattle.std.specs.Prelude.{List, ◌≡◌, ℕ, ◌+◌, ◌*◌, ◌≤◌, ◌<◌}
use Rattle.std.proofs.Math.Logic.{⊎_elim}
use Rattle.std.proofs.Math.Path.{sym, ap}
use Rattle.std.proofs.Common.{ap₂, ◌∙◌, eq-zero-or-pos, div-mul-le_self}
use Rattle.std.specs.Int.{◌∣◌}
use Rattle.std.proofs.Math.Nat.{div-mul_cancel}
use native.Mathlib.Omega.{arith}
use Rattle.game.specs.Game.{neighbour_term}
use Rattle.table_spec.specs.Limits.{max_degree}
use Rattle.table_spec.specs.Layout.{bus_count, degree, need}
use Rattle.table_spec.specs.Holds.{Scorable}
use Rattle.table_spec.proofs.Rows.{degree-le}
use Rattle.share_spec.specs.TableNetwork.{max_denominator, Over}
use Rattle.share_terms.specs.Unit.{unit}
use Rattle.share_terms.proofs.CaseLaws.{need_above_degree_lem}

-- the need k and the degree d of a bus, over an L that d(d+1) divides, and its unit u, as code has them
module _ {k d L u : ℕ} (p : 1 ≤ k) (divided : 0 < d → d * (d + 1) ∣ L) (eu : u ≡ unit L d) where
  pub unit-le : u * (d * (d + 1)) ≤ L
  unfolding unit
  unit-le = rw eu (div-mul-le_self L (d * (d + 1)))

  pub unit_term : neighbour_term k d (u * (d * (d + 1))) ≡ neighbour_term k d L
  unfolding unit
  unit_term =
      ⊎_elim
      (λ z. let l : d < k = omega arith in sym (need_above_degree_lem k d _ l) ∙ need_above_degree_lem k d L l)
      (λ q. ap (neighbour_term k d) (rw eu (div-mul_cancel (d * (d + 1)) (divided q))))
      (eq-zero-or-pos d)

-- those of a bus of a table: the term that is asked for, and what it is
module _ {t : List ℕ} (w : Scorable t) {L : ℕ} (o : Over t L) {bus d k u : ℕ} (b : bus < bus_count t) (ed : d ≡ degree t bus) (ek : k ≡ need t bus) (eu : u ≡ unit L d) where
  needed : 1 ≤ k
  needed = omega (arith, w.needed bus b)

  divided : 0 < d → d * (d + 1) ∣ L
  divided = rw ed (o.divided bus b)

  pub term_asks : (1 ≤ k) × (d ≤ max_degree) × (u * (d * (d + 1)) ≤ max_denominator)
  term_asks = (needed, omega (arith, degree-le w bus b), omega (arith, unit-le needed divided eu, o.bounded))

  pub term_read : {x : ℕ} → x ≡ neighbour_term k d (u * (d * (d + 1))) → x ≡ neighbour_term (need t bus) (degree t bus) L
  term_read e = e ∙ unit_term needed divided eu ∙ ap₂ (λ k d. neighbour_term k d L) ek ed
