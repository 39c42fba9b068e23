-- The terms of a bus by its weight, its need and its row, as they are added to a list of sums: first what is left of L, then what each bus of its row gets.
use Rattle.std.specs.Prelude.{List, ◌≡◌, ℕ, ◌+◌, ◌-◌, ◌*◌, ◌^◌, ◌≤◌, ◌<◌, eqb, length, set}
use Rattle.std.proofs.Common.{ap, mul-le-mul_right, arith}
use Rattle.lists.specs.Lists.{indicator, count, ◌∈◌, at}
use Rattle.game.specs.Game.{own_term, neighbour_term, Whole}
use Rattle.game.proofs.Terms.{terms_whole}
use Rattle.table_spec.specs.Limits.{max_degree, max_weight}
use Rattle.table_spec.specs.Layout.{bus_count, row, need}
use Rattle.table_spec.specs.Holds.{Scorable}
use Rattle.table_spec.proofs.Rows.{valid_below, row_valid, degree-le}
use Rattle.share_spec.specs.TableNetwork.{Over}
use Rattle.share_spec.specs.TermsGiven.{terms_from}
use Rattle.share_spec.proofs.TermsGiven.{terms_le}
use Rattle.share_terms.specs.Unit.{unit, Divided}
use Rattle.share_terms.specs.Added.{Added}
use Rattle.share_terms.proofs.Adding.{added_entry, added_both}

-- the need k and the row r of a bus, and x, which it would give to each bus there if it had weight 1, as code has them
module _ (L k : ℕ) (r : List ℕ) (whole : Whole k (length r) L) {x : ℕ} (ex : x ≡ neighbour_term k (length r) L) where
  -- what is left of L is then its own term
  abbrev left : ℕ
  left = L - length r * x

  all : own_term k (length r) L + length r * x ≡ L
  all = rw ex (terms_whole k (length r) L whole)

  pub left_fits : length r * x ≤ L
  left_fits = omega (arith, all)

  -- both are multiplied by its weight w, and added to the sums u, which have an entry for the bus
  module _ (w bus : ℕ) (u : List ℕ) (b : bus < length u) where
    as_given : (v : ℕ) → terms_from w k r L bus v ≡ w * left * indicator (eqb v bus) + w * x * count v r
    unfolding terms_from
    as_given v = let e : left ≡ own_term k (length r) L = omega (arith, all) in rw (e, ex)

    left_added : Added (λ v. w * left * indicator (eqb v bus)) u (set u bus (at u bus + w * left))
    left_added = added_entry u bus (w * left) b

    -- there is room for what each bus of its row gets
    pub row_room : w ≤ max_weight → ((v : ℕ) → v ∈ r → (v < length u) × (at u v + max_weight * L < 2 ^ 64)) → (v : ℕ) → v ∈ r
        → (v < length (set u bus (at u bus + w * left))) × (at (set u bus (at u bus + w * left)) v + w * x * count v r < 2 ^ 64)
    row_room light room v m = (
      omega (arith, (room v m).0, left_added.long),
      omega (arith, (room v m).1, left_added.each v, as_given v, terms_le w k r L bus v whole, mul-le-mul_right {m = w} {n = max_weight} L light),
    )

    -- and with that all is added that it gives
    pub terms_added : {y : List ℕ} → Added (λ v. w * x * count v r) (set u bus (at u bus + w * left)) y → Added (terms_from w k r L bus) u y
    terms_added a = added_both left_added a as_given

-- weight, need and row, as code has them, and as they are
pub added_by : (L bus : ℕ) {w w' k k' : ℕ} {r r' u v : List ℕ} → w ≡ w' → k ≡ k' → r ≡ r' → Added (terms_from w k r L bus) u v → Added (terms_from w' k' r' L bus) u v
added_by L bus ew ek er a = rw (ew, ek, er) at a

-- a bus of a table, and its row r, as code has it
module _ {t : List ℕ} (w : Scorable t) {bus : ℕ} {r : List ℕ} (b : bus < bus_count t) (er : r ≡ row t bus) where
  pub row_short : length r ≤ max_degree
  row_short = omega (arith, ap length er, degree-le w bus b)

  pub row_inside : (v : ℕ) → v ∈ r → v < bus_count t
  row_inside v m = valid_below (row_valid w bus b) v (rw er at m)

  -- what is asked of it; x is its weight, k its need, and u its unit
  pub terms_asked : {x k L u : ℕ} → x ≤ max_weight → k ≡ need t bus → Over t L → u ≡ unit L (length r)
      → (x ≤ max_weight) × (1 ≤ k) × (length r ≤ max_degree) × Divided (length r) L × (u ≡ unit L (length r))
  terms_asked ex ek o eu = (ex, omega (arith, w.needed bus b), row_short, record { divided = rw er (o.divided bus b); bounded = o.bounded }, eu)
