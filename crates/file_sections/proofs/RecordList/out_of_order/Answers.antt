use Rattle.std.proofs.Common.{sym, ◌∙◌, arith}
use Rattle.lists.proofs.Loops.{any_below_start, any_below_by, any_below_more}
use Rattle.file_spec.specs.RecordOrder.{out_of_order}
use Rattle.file_sections.proofs.RecordList.out_of_order.Goals as goal

pub loop-k-init : goal.loop-k-init
unfolding out_of_order
loop-k-init c = any_below_start _

pub returns-then-misplaced : goal.returns-then-misplaced
unfolding out_of_order
returns-then-misplaced c = sym (any_below_by _ _ c.loop-k.k (omega arith) (sym c.misplaced.ensures ∙ c.if-misplaced.true))

pub loop-k-preserved : goal.loop-k-preserved
unfolding out_of_order
loop-k-preserved c = any_below_more _ _ c.loop-k.invariant (sym c.misplaced.ensures ∙ c.if-misplaced.false)
