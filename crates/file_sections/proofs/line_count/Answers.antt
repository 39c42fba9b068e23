use Rattle.std.proofs.Common.{◌≡◌, ◌+◌, not, refl, sym, ap, ◌∙◌, arith}
use Rattle.refusals.proofs.Due.{answer, stop, pass, accept}
use Rattle.table_spec.specs.Limits.{max_lines}
use Rattle.table_spec.specs.Holds.{within}
use Rattle.file_spec.specs.FileBytes.{word_at, file_line_count}
use Rattle.file_spec.specs.Sections.{line_count_causes}
use Rattle.file_sections.proofs.Lengths.{cut, reaches}
use Rattle.file_sections.proofs.line_count.Goals as goal

pub returns-then-file-from : goal.returns-then-file-from
returns-then-file-from c = answer (line_count_causes _) (file_line_count _) (stop (cut _ _ (omega arith)))

-- the count was read from behind the needs, and judged as read
pub returns-then-not-within : goal.returns-then-not-within
returns-then-not-within c =
    let f = c.args.file.now in
    let read : c.word-m.result ≡ file_line_count f = c.word-m.ensures.0 ∙ ap (λ n. word_at f (2 + n)) c.requires.0 in
    let judged : c.within.result ≡ within 0 max_lines (file_line_count f) = c.within.ensures ∙ ap (within 0 max_lines) read in
    answer (line_count_causes f) (file_line_count f) (pass (reaches _ _ (omega arith)) (stop (ap not (sym judged ∙ c.if-not-within.true))))

pub returns : goal.returns
returns c =
    let f = c.args.file.now in
    let read : c.word-m.result ≡ file_line_count f = c.word-m.ensures.0 ∙ ap (λ n. word_at f (2 + n)) c.requires.0 in
    let judged : c.within.result ≡ within 0 max_lines (file_line_count f) = c.within.ensures ∙ ap (within 0 max_lines) read in
    answer (line_count_causes f) (file_line_count f)
    (pass (reaches _ _ (omega arith)) (pass (ap not (sym judged ∙ c.if-not-within.false)) (accept read refl)))
