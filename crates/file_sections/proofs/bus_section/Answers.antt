use Rattle.std.proofs.Common.{◌≡◌, not, refl, sym, ap, ◌∙◌, arith}
use Rattle.refusals.proofs.Due.{answer, stop, pass, accept}
use Rattle.table_spec.specs.Limits.{max_buses}
use Rattle.table_spec.specs.Holds.{within, needs_in_range}
use Rattle.file_spec.specs.FileBytes.{file_bus_count, need_bytes}
use Rattle.file_spec.specs.Sections.{bus_section_causes}
use Rattle.file_sections.proofs.Lengths.{cut, reaches}
use Rattle.file_sections.proofs.bus_section.Goals as goal

pub returns-then-file-lt2 : goal.returns-then-file-lt2
returns-then-file-lt2 c = answer (bus_section_causes _) (file_bus_count _) (stop (cut _ _ c.if-file-lt2.true))

-- the bus count is judged as read
pub returns-then-not-within : goal.returns-then-not-within
returns-then-not-within c =
    let f = c.args.file.now in
    let judged : c.within.result ≡ within 1 max_buses (file_bus_count f) = c.within.ensures ∙ ap (within 1 max_buses) c.word-n.ensures.0 in
    answer (bus_section_causes f) (file_bus_count f) (pass (reaches _ _ (omega arith)) (stop (ap not (sym judged ∙ c.if-not-within.true))))

pub returns-then-file-n : goal.returns-then-file-n
returns-then-file-n c =
    let f = c.args.file.now in
    let judged : c.within.result ≡ within 1 max_buses (file_bus_count f) = c.within.ensures ∙ ap (within 1 max_buses) c.word-n.ensures.0 in
    answer (bus_section_causes f) (file_bus_count f)
    (pass (reaches _ _ (omega arith)) (pass (ap not (sym judged ∙ c.if-not-within.false)) (stop (cut _ _ (omega arith)))))

-- and the needs are the file's
pub returns-then-not-needs_in_range : goal.returns-then-not-needs_in_range
returns-then-not-needs_in_range c =
    let f = c.args.file.now in
    let judged : c.within.result ≡ within 1 max_buses (file_bus_count f) = c.within.ensures ∙ ap (within 1 max_buses) c.word-n.ensures.0 in
    let seen : c.needs_in_range.result ≡ needs_in_range (need_bytes f) = c.needs_in_range.ensures ∙ ap needs_in_range c.need_bytes.ensures in
    answer (bus_section_causes f) (file_bus_count f)
    (pass (reaches _ _ (omega arith))
    (pass (ap not (sym judged ∙ c.if-not-within.false)) (pass (reaches _ _ (omega arith)) (stop (ap not (sym seen ∙ c.if-not-needs_in_range.true))))))

pub returns : goal.returns
returns c =
    let f = c.args.file.now in
    let judged : c.within.result ≡ within 1 max_buses (file_bus_count f) = c.within.ensures ∙ ap (within 1 max_buses) c.word-n.ensures.0 in
    let seen : c.needs_in_range.result ≡ needs_in_range (need_bytes f) = c.needs_in_range.ensures ∙ ap needs_in_range c.need_bytes.ensures in
    answer (bus_section_causes f) (file_bus_count f)
    (pass (reaches _ _ (omega arith))
    (pass (ap not (sym judged ∙ c.if-not-within.false))
    (pass (reaches _ _ (omega arith)) (pass (ap not (sym seen ∙ c.if-not-needs_in_range.false)) (accept c.word-n.ensures.0 refl)))))
