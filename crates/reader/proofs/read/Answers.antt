use Rattle.std.proofs.Common.{length, sym, ap, ◌∙◌, arith}
use Rattle.refusals.proofs.Due.{stage_stop}
use Rattle.file_spec.specs.FileBytes.{file_bus_count, need_bytes, file_line_count, records}
use Rattle.file_spec.specs.Sections.{section_causes, counts}
use Rattle.file_spec.proofs.SoundSections.{length-need_bytes, weights-complete}
use Rattle.read_spec.specs.ReadOutcome.{record_causes}
use Rattle.read_spec.proofs.Recorded.{read_recorded}
use Rattle.read_spec.proofs.ReadDecides.{sound, counted, records_decide}
use Rattle.reader.proofs.read.Goals as goal

-- The sections decide, or else the records.
pub invariant_of-counted : goal.invariant_of-counted
invariant_of-counted c =
    let e = sym c.in-Ok.ensures in
    let n = ap (λ n. n.buses) (counted _ e) in
    let m = ap (λ n. n.lines) (counted _ e) in
    let w = sound _ e in
    record { counted = (n, m); few = (omega (arith, n, w.first.buses), omega (arith, m, w.lines)) }

pub need_bytes-needs-requires : goal.need_bytes-needs-requires
need_bytes-needs-requires c = let e = sym c.in-Ok.ensures in (ap (λ n. n.buses) (counted _ e), (sound _ e).first.complete)

pub weight_bytes-requires : goal.weight_bytes-requires
weight_bytes-requires c = sound _ (sym c.in-Ok.ensures)

pub records-requires : goal.records-requires
records-requires c = sound _ (sym c.in-Ok.ensures)

pub read_records-requires : goal.read_records-requires
read_records-requires c =
    let w = sound _ (sym c.in-Ok.ensures) in
    let q = ap length c.need_bytes-needs.ensures ∙ length-need_bytes w in
    (omega (arith, q, w.first.buses), rw (c.weight_bytes.ensures, q) (weights-complete w), omega (arith, c.records.ensures.1, w.lines))

pub returns-in-Err : goal.returns-in-Err
returns-in-Err c =
    let f = c.args.file.now in
    let t = c.args.table.now in
    let w = read_recorded f t
    (stage_stop (section_causes f) (counts f) (record_causes (file_bus_count f) (need_bytes f) (file_line_count f) (records f) (length t)) c.in-Err.ensures) in
    record { answer = w.0; stored = w.1.0; recorded = w.1.1 }

pub returns-in-Ok : goal.returns-in-Ok
returns-in-Ok c =
    let f = c.args.file.now in
    let t = c.args.table.now in
    let e = sym c.in-Ok.ensures in
    let w = read_recorded f t
    (records_decide f e t c.need_bytes-needs.ensures c.weight_bytes.ensures c.records.ensures.1 c.records.ensures.0 c.read_records.ensures) in
    record { answer = w.0; stored = w.1.0; recorded = w.1.1 }
