use Rattle.std.proofs.Common.{arith}
use Rattle.std.proofs.lemmas.Grind.{common_steps}
use Rattle.table_spec.proofs.Facts.{steps_facts}
use Rattle.table_spec.specs.Holds.{sound_rows}
use Rattle.table_check.proofs.rows.sound_rows.Goals as goal

pub valid_rows-requires : goal.valid_rows-requires
valid_rows-requires c = record { long = c.requires.0; ends = c.requires.1; steps = steps_facts _ _ (grind (arith, common_steps)) }

pub returns-then-spans : goal.returns-then-spans
unfolding sound_rows
returns-then-spans c = grind (arith, common_steps)

pub returns-else-spans : goal.returns-else-spans
unfolding sound_rows
returns-else-spans c = grind (arith, common_steps)
