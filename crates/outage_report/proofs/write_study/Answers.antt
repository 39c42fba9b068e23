use Rattle.std.proofs.Common.{◌≡◌, sym, ◌∙◌, ℤ, List, pos, length, replicate}
use Rattle.std.proofs.lemmas.List.{length-replicate}
use Rattle.table_spec.specs.Limits.{max_buses}
use Rattle.outage_report.proofs.StoredChanges.{front_small, front-lines}
use Rattle.outage_report.proofs.Printing.{print_changes}
use Rattle.outage_report.proofs.write_study.Goals as goal

-- the entries that the study is lent
abbrev lent : List ℤ
lent = replicate max_buses (pos 0)

room : length lent ≡ max_buses
room = length-replicate {A = ℤ} max_buses (pos 0)

pub write_changes-requires : goal.write_changes-requires
write_changes-requires c =
    let n = rw c.table.ensures.value at c.buses-n.ensures.value in
    (front_small c.args.network.now c.args.line lent n (sym c.in-Ok.ensures.answer) c.in-Ok.ensures.stored, c.requires)

pub returns-in-Ok-clause-written_at : goal.returns-in-Ok-clause-written_at
returns-in-Ok-clause-written_at c =
    let n = rw c.table.ensures.value at c.buses-n.ensures.value in
    let accepted = sym c.in-Ok.ensures.answer in
    let text = front-lines c.args.network.now c.args.line lent n accepted c.in-Ok.ensures.stored ∙ print_changes c.args.network.now c.args.line room accepted in
    rw text at c.write_changes.ensures.written_at
