use Rattle.outage_spec.proofs.StudyDue.{all-studied}
use Rattle.outage.proofs.changes.Goals as goal

pub returns-clause-fair : goal.returns-clause-fair
returns-clause-fair c =
    let same = c.in_ok-network.ensures.1 in
    all-studied c.args.table.now c.args.line c.args.changes.now (rw same at c.study_network.ensures.answer) (rw same at c.study_network.ensures.stored)
