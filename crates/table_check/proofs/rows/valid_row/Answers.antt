use Rattle.std.proofs.Common.{rules, sym, arith, ⊎_elim}
use Rattle.lists.specs.Lists.{at}
use Rattle.lists.proofs.Tests.{fails}
use Rattle.table_spec.proofs.Facts.{valid_facts, valid_test}
use Rattle.table_check.proofs.ValidEntries.{too_late, all_passed}
use Rattle.table_check.proofs.rows.valid_row.Goals as goal

pub returns-then-neighbour-n : goal.returns-then-neighbour-n
unfolding at
returns-then-neighbour-n c =
    let t = c.loop-neighbour-test.true in
    sym (fails _ λ w.
    let z = valid_facts _ _ _ w in
    ⊎_elim (λ a. omega (arith, z.below _ t)) (⊎_elim (λ a. z.others _ t a.1) (λ a. too_late c.loop-neighbour.invariant t a.2 z)) c.then-neighbour-n.either)

pub loop-neighbour-preserved : goal.loop-neighbour-preserved
unfolding at
loop-neighbour-preserved c = search rules

pub returns : goal.returns
returns c = sym (valid_test _ _ _ (all_passed c.loop-neighbour.invariant c.loop-neighbour-test.false))
