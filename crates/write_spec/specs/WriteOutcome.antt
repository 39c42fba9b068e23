-- What the file writer answers and writes, for every slice and all lent bytes.
-- Definitions only.
use Rattle.std.specs.Prelude.{List, [], ◌∷◌, ℕ, ltb, length}
use Rattle.lists.specs.Lists.{put}
use Rattle.refusals.specs.declared.Refusal.TheVariants.{BytesTooShort}
use Rattle.refusals.specs.Outcomes.{Outcome, Cause, ◌⇒◌, outcome, values_or}
use Rattle.table_spec.specs.Holds.{holds}
use Rattle.table_spec.specs.TableOutcomes.{on_table}
use Rattle.write_spec.specs.FileOf.{file_of}

-- refused as any call on a table is; then, if fewer bytes are lent than the file has
abbrev pub write_causes : List ℕ → ℕ → List Cause
write_causes t lent = on_table (holds t) ((ltb lent (length (file_of t)) ⇒ BytesTooShort) ∷ [])

-- how many bytes the file has, or the number of the first cause
abbrev pub write_outcome : List ℕ → ℕ → Outcome ℕ
write_outcome t lent = outcome (write_causes t lent) (length (file_of t))

-- what bytes that held x hold afterwards: accepted, the file is written over their front; refused, what they held
abbrev pub bytes_after : List ℕ → List ℕ → List ℕ
bytes_after t x = values_or x (outcome (write_causes t (length x)) (put x 0 (file_of t)))
