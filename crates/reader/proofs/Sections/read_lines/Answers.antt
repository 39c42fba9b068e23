use Rattle.std.proofs.Common.{◌≡◌, false, not, ℕ, length, refl, sym, ap, ◌∙◌, arith}
use Rattle.refusals.proofs.Due.{stop, pass, below, not-below, accept}
use Rattle.table_spec.specs.Layout.{table_entries}
use Rattle.file_spec.specs.Records.{degree_too_high, need_above_degree, pair_count}
use Rattle.file_spec.proofs.RecordPairs.{pair_count-le}
use Rattle.reader.proofs.Building.{too_high_counted, above_counted}
use Rattle.reader.proofs.Sections.read_lines.Goals as goal

-- The degrees decide, or else the needs, or else the room for the table.
pub returns-then-degree_too_high : goal.returns-then-degree_too_high
returns-then-degree_too_high c =
    stop (sym (too_high_counted (rw c.args.self.now.counted at c.count_neighbours-lines.ensures.1)) ∙ sym c.degree_too_high.ensures ∙ c.if-degree_too_high.true)

-- no degree is too high, and a need cannot be met exactly if the code says so
pub returns-then-not-needs_can_be_met : goal.returns-then-not-needs_can_be_met
returns-then-not-needs_can_be_met c =
    let s = c.args.self.now in
    let q = s.needs.now in
    let r = s.sorted.records in
    let counted = rw s.counted at c.count_neighbours-lines.ensures.1 in
    let low : degree_too_high (length q) r.count r.bytes.now ≡ false = sym (too_high_counted counted) ∙ sym c.degree_too_high.ensures ∙ c.if-degree_too_high.false in
    let above : not c.needs_can_be_met.result ≡ need_above_degree (length q) q r.count r.bytes.now = ap not c.needs_can_be_met.ensures ∙ above_counted q counted in
    pass low (stop (sym above ∙ ap not c.if-not-needs_can_be_met.true))

pub entries-requires : goal.entries-requires
entries-requires c =
    let s = c.args.self.now.sorted in (
      omega (arith, c.args.self.now.counted, s.few.0),
      omega (arith, c.count_neighbours-lines.ensures.0, pair_count-le s.records.count s.records.bytes.now, s.few.1),
    )

-- and so many entries are asked for
pub returns-then-table-entries : goal.returns-then-table-entries
returns-then-table-entries c =
    let s = c.args.self.now in
    let q = s.needs.now in
    let r = s.sorted.records in
    let counted = rw s.counted at c.count_neighbours-lines.ensures.1 in
    let low : degree_too_high (length q) r.count r.bytes.now ≡ false = sym (too_high_counted counted) ∙ sym c.degree_too_high.ensures ∙ c.if-degree_too_high.false in
    let above : not c.needs_can_be_met.result ≡ need_above_degree (length q) q r.count r.bytes.now = ap not c.needs_can_be_met.ensures ∙ above_counted q counted in
    let asked : c.entries.result ≡ table_entries (length q) (pair_count r.count r.bytes.now) = omega (arith, c.entries.ensures, c.count_neighbours-lines.ensures.0) in
    pass low (pass (sym above ∙ ap not c.if-not-needs_can_be_met.false) (below refl asked c.if-table-entries.true))

pub returns : goal.returns
returns c =
    let s = c.args.self.now in
    let q = s.needs.now in
    let r = s.sorted.records in
    let counted = rw s.counted at c.count_neighbours-lines.ensures.1 in
    let low : degree_too_high (length q) r.count r.bytes.now ≡ false = sym (too_high_counted counted) ∙ sym c.degree_too_high.ensures ∙ c.if-degree_too_high.false in
    let above : not c.needs_can_be_met.result ≡ need_above_degree (length q) q r.count r.bytes.now = ap not c.needs_can_be_met.ensures ∙ above_counted q counted in
    let asked : c.entries.result ≡ table_entries (length q) (pair_count r.count r.bytes.now) = omega (arith, c.entries.ensures, c.count_neighbours-lines.ensures.0) in
    pass low
    (pass (sym above ∙ ap not c.if-not-needs_can_be_met.false)
    (not-below refl asked c.if-table-entries.false
    (accept (ap (λ (k : ℕ). record { buses = length q; lines = k }) c.count_neighbours-lines.ensures.0) c.store_table.ensures)))

pub store_table-requires-clause-counted : goal.store_table-requires-clause-counted
store_table-requires-clause-counted c = rw c.args.self.now.counted at c.count_neighbours-lines.ensures.1
