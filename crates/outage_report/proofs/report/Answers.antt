use Rattle.std.proofs.Common.{arith, ◌≡◌, sym, ap, ◌∙◌, List, ℕ, ◌≤◌, length, replicate}
use Rattle.std.proofs.lemmas.List.{length-replicate}
use Rattle.table_spec.specs.Limits.{max_entries}
use Rattle.lists.specs.Lists.{put, part, WrittenAt}
use Rattle.outage_report.specs.OutageReport.{studied}
use Rattle.outage_report.proofs.Printing.{print_studied, print_file}
use Rattle.outage_report.proofs.report.Goals as goal

-- a text was written at the front of x, and is the one that is due
answered : (x : List ℕ) {text due y : List ℕ} {r : ℕ} → WrittenAt text 0 x r y → text ≡ due → r ≤ length y → ((r ≡ length due) × (r ≤ length y)) × (y ≡ put x 0 due)
answered x w p l = ((omega (arith, w.0, ap length p), l), w.1 ∙ ap (put x 0) p)

room : length (replicate {A = ℕ} max_entries 0) ≡ max_entries
room = length-replicate {A = ℕ} max_entries 0

-- Read accepted the file behind the line number.
pub returns-in-Ok : goal.returns-in-Ok
returns-in-Ok c =
    let e = c.in-Ok.ensures in
    let file = part 2 (length c.args.input.now) c.args.input.now in
    let k = c.word-line.result in
    let due =
    ap (λ t. studied t k) (c.new.ensures ∙ e.stored) ∙ print_studied file k (replicate max_entries 0) room (sym e.answer) ∙ print_file c.args.input.now c.if-input-lt2.false c.word-line.ensures.0 in
    let d = answered c.args.out.now c.write_study.ensures.written_at due (omega (arith, c.write_study.ensures.upper_bound, c.write_study.auto.out)) in
    record { answer = d.0; text = d.1 }
