use Rattle.std.proofs.Common.{arith}
use Rattle.table_spec.proofs.Facts.{holds_test}
use Rattle.outage_spec.proofs.StudyDue.{study_due, no_line, too_few, enough, line_over, over_stored}
use Rattle.outage.proofs.study_network.Goals as goal

pub returns-then-lines-line-clause-answer : goal.returns-then-lines-line-clause-answer
returns-then-lines-line-clause-answer c =
    let held = holds_test _ c.table-table.ensures.network in
    (study_due _ _ _ (no_line c.args.network.now c.args.line c.args.changes.now held c.lines.ensures.value (omega arith))).0

pub returns-then-changes-buses-clause-answer : goal.returns-then-changes-buses-clause-answer
returns-then-changes-buses-clause-answer c =
    let held = holds_test _ c.table-table.ensures.network in
    let n = rw c.table-table.ensures.value at c.buses.ensures.value in
    (study_due _ _ _ (too_few c.args.network.now c.args.line c.args.changes.now held c.lines.ensures.value (omega arith) n (omega arith))).0

pub study_network_over-requires-clause-line : goal.study_network_over-requires-clause-line
study_network_over-requires-clause-line c = (omega (arith, c.lines.ensures.value), rw (← c.table-table.ensures.value) (omega (arith, c.buses.ensures.value)))

pub study_network_over-requires-clause-whole : goal.study_network_over-requires-clause-whole
study_network_over-requires-clause-whole c =
    let l = rw c.table-table.ensures.value at c.denominator_of-over.ensures in
    line_over c.args.network.now (holds_test _ c.table-table.ensures.network) c.args.line (omega (arith, c.lines.ensures.value)) l

pub returns : goal.returns
returns c =
    let t = c.args.network.now in
    let held = holds_test _ c.table-table.ensures.network in
    let n = rw c.table-table.ensures.value at c.buses.ensures.value in
    let l = rw c.table-table.ensures.value at c.denominator_of-over.ensures in
    let d =
    study_due _ _ _
    (enough t c.args.line c.args.changes.now held c.lines.ensures.value (omega arith) n (omega arith) l
    (over_stored t c.args.line c.args.changes.now l c.study_network_over.ensures)) in
    record { answer = d.0; stored = d.1 }
