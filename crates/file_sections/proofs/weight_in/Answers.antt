use Rattle.std.proofs.Common.{sym, arith}
use Rattle.file_spec.specs.FileBytes.{weight_in}
use Rattle.file_sections.proofs.weight_in.Goals as goal

pub returns-then-is_empty : goal.returns-then-is_empty
unfolding weight_in
returns-then-is_empty c = (rw (sym c.if-is_empty.ensures), omega arith)

pub returns : goal.returns
unfolding weight_in
returns c = (rw (sym c.if-is_empty.ensures) c.word.ensures.0, c.word.ensures.1)
