use Rattle.std.proofs.Common.{[], ◌≡◌, ℕ, ap₂, sym, ◌∙◌, arith}
use Rattle.std.proofs.lemmas.Result.{err_from_is_err_and}
use Rattle.refusals.specs.Outcomes.{gives}
use Rattle.refusals.proofs.Causes.{no_cause, none-gives}
use Rattle.refusals.proofs.Due.{answer, stage_stop}
use Rattle.file_spec.specs.FileBytes.{records_end}
use Rattle.file_spec.specs.Sections.{weight_section_causes, counts}
use Rattle.file_sections.proofs.Lengths.{longer, all_read}
use Rattle.file_sections.proofs.CountedFile.judge_weights.Goals as goal
use Rattle.file_sections.proofs.CountedFile.judge_weights.Goals.{then-from-self+in_ok-weight_section, else-from-self}

-- Nothing follows the records, or else the section of weights decides.
pub returns-in_err-weight_section : goal.returns-in_err-weight_section
returns-in_err-weight_section c =
    let f = c.args.self.now.file.now in
    let p = err_from_is_err_and c.from_residual.result c.from_residual.ensures.1 in
    rw (p.1, p.2)
    (rw (longer f (records_end f) (omega arith))
    (answer (weight_section_causes f) (counts f) (stage_stop (weight_section_causes f) tt [] c.in_err-weight_section.ensures)))

pub returns : goal.returns
returns c =
    let s = c.args.self.now in
    let f = s.file.now in
    let given : gives (record { buses = s.buses; lines = s.lines }) ≡ gives (counts f) =
    ap₂ (λ (n m : ℕ). gives (record { buses = n; lines = m })) s.counted.0 s.counted.1 in
    elim c.if-from-self.branch [
      | then-from-self+in_ok-weight_section w ↦
          rw (longer f (records_end f) (omega arith))
          (given ∙ sym (none-gives (weight_section_causes f) (counts f) (no_cause (weight_section_causes f) tt (sym w.in_ok-weight_section.ensures)).0))
      | else-from-self w ↦ rw (all_read f (records_end f) (omega arith)) given
    ]
