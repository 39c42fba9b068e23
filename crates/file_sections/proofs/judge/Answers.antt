use Rattle.std.proofs.Common.{◌≡◌, ◌≤◌, List, ℕ, sym, arith}
use Rattle.refusals.proofs.Causes.{no_cause}
use Rattle.refusals.specs.Outcomes.{gives, outcome}
use Rattle.table_spec.specs.Limits.{max_buses, max_lines}
use Rattle.file_spec.specs.FileBytes.{file_bus_count, file_line_count, records_end}
use Rattle.file_spec.specs.Sections.{bus_section_causes, line_count_causes, missing_causes}
use Rattle.file_spec.proofs.SoundSections.{buses_passed, lines_passed}
use Rattle.file_sections.proofs.judge.Goals as goal

-- the bus count that a section gives is the file's, and no more than a network may have
buses : (f : List ℕ) {n : ℕ} → gives n ≡ outcome (bus_section_causes f) (file_bus_count f) → (n ≡ file_bus_count f) × (n ≤ max_buses)
buses f e = let z = no_cause (bus_section_causes f) (file_bus_count f) (sym e) in (z.1, omega (arith, (buses_passed f z.0).buses, z.1))

-- so is the line count
lines : (f : List ℕ) {m : ℕ} → gives m ≡ outcome (line_count_causes f) (file_line_count f) → (m ≡ file_line_count f) × (m ≤ max_lines)
lines f e = let z = no_cause (line_count_causes f) (file_line_count f) (sym e) in (z.1, omega (arith, lines_passed f z.0, z.1))

pub line_count-requires : goal.line_count-requires
line_count-requires c = buses c.args.file.now c.in_ok-buses.ensures

pub invariant_of-counted : goal.invariant_of-counted
invariant_of-counted c =
    let f = c.args.file.now in
    let n = buses f c.in_ok-buses.ensures in
    let m = lines f c.in_ok-lines.ensures in
    record { counted = (n.0, m.0); few = (n.1, m.1) }

pub judge_weights-requires : goal.judge_weights-requires
judge_weights-requires c =
    let f = c.args.file.now in
    (no_cause (missing_causes f) (records_end f) (sym c.in_ok-end.ensures)).1
