use Rattle.std.proofs.Common.{◌≡◌, true, sym, ◌∙◌, arith}
use Rattle.std.proofs.lemmas.Grind.{common_steps}
use Rattle.lists.proofs.Tests.{fails}
use Rattle.table_spec.specs.Holds.{complete}
use Rattle.table_spec.proofs.Facts.{complete_facts, complete_test, two_way_test, holds_facts, steps_read, holds_read}
use Rattle.table_check.proofs.holds.Goals as goal

pub returns-then-is_empty : goal.returns-then-is_empty
returns-then-is_empty c = sym (fails _ (λ w. let z = (holds_facts _ w).shape.complete in grind (arith, common_steps)))

pub two_way-requires : goal.two_way-requires
two_way-requires c = complete_facts _ _ (sym c.if-complete.ensures)

pub needs-requires : goal.needs-requires
needs-requires c =
    let w : complete c.starts_at-from.result c.args.table.now ≡ true = grind arith in
    let z = complete_facts _ _ w in omega arith

pub weights-requires : goal.weights-requires
weights-requires c =
    let w : complete c.starts_at-from.result c.args.table.now ≡ true = grind arith in
    let z = complete_facts _ _ w in omega (arith, c.starts_at-from.ensures.0)

pub starts-requires : goal.starts-requires
starts-requires c = complete_facts _ _ (grind arith)

pub valid_buses-requires : goal.valid_buses-requires
valid_buses-requires c = steps_read _ c.starts_at-from.ensures.0 c.starts.ensures c.needs.ensures c.weights.ensures (grind arith) (grind arith)

pub returns-then-two_way : goal.returns-then-two_way
returns-then-two_way c = holds_read _ c.starts_at-from.ensures.0 c.starts.ensures c.needs.ensures c.weights.ensures (grind arith) (grind arith) c.valid_buses.ensures

pub returns-else-two_way : goal.returns-else-two_way
returns-else-two_way c =
    c.if-two_way.false
    ∙ sym (fails _ λ w.
    let h = holds_facts _ w in
    let a = complete_test _ _ h.shape.complete in
    let b = two_way_test _ _ h.shape.rows h.mirrored in grind arith)
