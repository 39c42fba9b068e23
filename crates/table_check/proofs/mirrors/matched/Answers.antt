use Rattle.std.proofs.Common.{◌≡◌, ◌≤◌, ◌<◌, List, ℕ, length, true, refl, sym, ap, ap₂, ◌∙◌, arith}
use Rattle.lists.specs.Lists.{at}
use Rattle.lists.proofs.Loops.{all_below_start, all_below_more, all_below_fails}
use Rattle.table_spec.specs.Limits.{max_buses, max_degree}
use Rattle.table_spec.proofs.Rows.{row_lies, row-le}
use Rattle.table_spec.specs.Holds.{ValidRow, Spans}
use Rattle.table_spec.specs.Layout.{row_at}
use Rattle.table_check.specs.Cursors.{is_at}
use Rattle.table_check.proofs.Mirror.{Moved, none_moved, one-moved, unmoved, is_there}
use Rattle.table_check.proofs.mirrors.matched.Goals as goal

-- entry k of row i
module _ {n i : ℕ} {s l r : List ℕ} (h : Spans n s l × (n ≤ max_buses) × ValidRow n i r) {k : ℕ} (b : k < length r) where
  asked : {x y q : List ℕ} → Moved r k x y → q ≡ row_at s l (at r k) → is_at q (at y (at r k)) i ≡ is_at (row_at s l (at r k)) (at x (at r k)) i
  asked m f = ap₂ (λ u v. is_at u v i) f (unmoved m b h.2)

  bounded : {q : List ℕ} (c : ℕ) → q ≡ row_at s l (at r k) → is_at q c i ≡ true → c < max_degree
  bounded c f t = omega (arith, (is_there _ c i t).0, ap length f, row-le n s l h.0 (at r k) (h.2.below k b))

pub loop-neighbour-init : goal.loop-neighbour-init
loop-neighbour-init c = (all_below_start _, none_moved _ _)

pub bounds-cursors-neighbour : goal.bounds-cursors-neighbour
unfolding at
bounds-cursors-neighbour c = omega (arith, c.requires.spans.2.below _ c.loop-neighbour-test.true, c.requires)

pub bounds-cursors-neighbour-in-loop-neighbour : goal.bounds-cursors-neighbour-in-loop-neighbour
unfolding at
bounds-cursors-neighbour-in-loop-neighbour c = omega (arith, c.requires.spans.2.below _ c.loop-neighbour-test.true, c.requires)

pub row_at-requires : goal.row_at-requires
unfolding at
row_at-requires c = row_lies _ _ _ c.requires.spans.0 _ (c.requires.spans.2.below _ c.loop-neighbour-test.true)

pub returns-then-not-is_at : goal.returns-then-not-is_at
unfolding at
returns-then-not-is_at c =
    let inv = c.loop-neighbour.invariant in
    let f = sym (c.if-not-is_at.ensures ∙ asked c.requires.spans c.loop-neighbour-test.true inv.1 c.row_at.ensures) in
    record { long = inv.1.long; answer = sym (all_below_fails _ _ _ c.loop-neighbour-test.true f); moved = λ w. cc }

pub overflow_add-cursors : goal.overflow_add-cursors
unfolding at
overflow_add-cursors c =
    let z = bounded c.requires.spans c.loop-neighbour-test.true _ c.row_at.ensures (sym c.if-not-is_at.ensures) in
    omega arith

pub loop-neighbour-preserved : goal.loop-neighbour-preserved
unfolding at
loop-neighbour-preserved c =
    let inv = c.loop-neighbour.invariant in
    let t = c.loop-neighbour-test.true in (
      all_below_more _ _ inv.0 (sym (c.if-not-is_at.ensures ∙ asked c.requires.spans t inv.1 c.row_at.ensures)),
      one-moved inv.1 t refl (omega (arith, c.requires.spans.2.below _ t, c.requires.spans, c.requires.cursors_len)),
    )
