use Rattle.std.proofs.Common.{refl, arith}
use Rattle.refusals.proofs.Due.{answer, stop, pass, accept}
use Rattle.file_spec.specs.FileBytes.{records_end}
use Rattle.file_spec.specs.Sections.{missing_causes}
use Rattle.file_sections.proofs.Lengths.{cut, reaches}
use Rattle.file_sections.proofs.CountedFile.records_end.Goals as goal

pub returns-then-self-end : goal.returns-then-self-end
returns-then-self-end c = answer (missing_causes _) (records_end _) (stop (cut _ _ (omega arith)))

pub returns : goal.returns
returns c = answer (missing_causes _) (records_end _) (pass (reaches _ _ (omega arith)) (accept (omega arith) refl))
