use Rattle.std.proofs.Common.{arith, List, ℕ, ◌≡◌, ◌∙◌, ◌+◌, ◌-◌, ◌*◌, ◌≤◌, length}
use Rattle.std.proofs.Math.Nat.{mul-le-mul}
use Rattle.lists.specs.Lists.{at}
use Rattle.table_spec.specs.Limits.{max_degree, max_weight}
use Rattle.game.specs.Game.{neighbour_term, Whole}
use Rattle.game.proofs.Terms.{whole_degree}
use Rattle.share_spec.proofs.TermBounds.{term_le}
use Rattle.share_terms.specs.Unit.{unit, Divided}
use Rattle.share_terms.proofs.TermUnits.{unit-le, unit_term}
use Rattle.share_terms.proofs.RowTerms.{left_fits, row_room, terms_added}
use Rattle.share_terms.proofs.add_terms.Goals as goal

-- What a bus of weight 1 would give to each in its row, and what it keeps.
module _ {over weight need : ℕ} (row : List ℕ) {one x : ℕ}
    (r : (weight ≤ max_weight) × (1 ≤ need) × (length row ≤ max_degree) × Divided (length row) over × (one ≡ unit over (length row)))
    (e : x ≡ neighbour_term need (length row) (one * (length row * (length row + 1)))) where
  whole : Whole need (length row) over
  whole = whole_degree _ _ _ r.1 r.3.divided

  term_is : x ≡ neighbour_term need (length row) over
  term_is = e ∙ unit_term r.1 r.3.divided r.4

  left_le : length row * x ≤ over
  left_le = left_fits over need row whole term_is

  -- a number up to L, times the weight
  weighed_le : (y : ℕ) → y ≤ over → weight * y ≤ max_weight * over
  weighed_le y h = mul-le-mul {n₁ = weight} {m₁ = y} {n₂ = max_weight} {m₂ = over} r.0 h

  -- what is left of L is one
  left_weighed : weight * (over - length row * x) ≤ max_weight * over
  left_weighed = weighed_le _ (omega arith)

  -- and so is the term
  term_weighed : weight * x ≤ max_weight * over
  term_weighed = weighed_le _ (omega (arith, term_is, term_le need (length row) over))

pub term-term-requires : goal.term-term-requires
term-term-requires c =
    let r = c.requires.weight_le_max_weight in
    (r.1, r.2, omega (arith, unit-le r.1 r.3.divided r.4, r.3.bounded))

pub overflow_mul-numerators : goal.overflow_mul-numerators
overflow_mul-numerators c =
    let r = c.requires.weight_le_max_weight in
    record { fits = omega (arith, left_le c.args.row.now r c.term-term.ensures, r.3.bounded) }

pub overflow_sub-numerators : goal.overflow_sub-numerators
overflow_sub-numerators c = left_le c.args.row.now c.requires.weight_le_max_weight c.term-term.ensures

pub overflow_add-numerators : goal.overflow_add-numerators
unfolding at
overflow_add-numerators c =
    record {
      fits = omega (
        arith,
        left_weighed c.args.row.now c.requires.weight_le_max_weight c.term-term.ensures,
        c.requires.bus_in_bounds.1,
      );
    }

pub overflow_mul-weight : goal.overflow_mul-weight
overflow_mul-weight c =
    let r = c.requires.weight_le_max_weight in
    record { fits = omega (arith, term_weighed c.args.row.now r c.term-term.ensures, r.3.bounded) }

pub give-requires : goal.give-requires
unfolding at
give-requires c v m =
    let r = c.requires.weight_le_max_weight in
    let w = whole c.args.row.now r c.term-term.ensures in
    let t = term_is c.args.row.now r c.term-term.ensures in
    let room =
    row_room _ _ _ w t c.args.weight c.args.bus c.args.numerators.now c.requires.bus_in_bounds.0 r.0 c.requires.by_index v m in
    (room.0, omega (arith, room.1))

pub returns : goal.returns
unfolding at
returns c =
    let r = c.requires.weight_le_max_weight in
    let w = whole c.args.row.now r c.term-term.ensures in
    let t = term_is c.args.row.now r c.term-term.ensures in
    terms_added _ _ _ w t c.args.weight c.args.bus c.args.numerators.now c.requires.bus_in_bounds.0 c.give.ensures
