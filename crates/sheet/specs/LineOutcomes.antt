-- What Sheet line answers and writes, for every slice. Definitions only.
use Rattle.std.specs.Prelude.{List, [], ◌∷◌, ◌++◌, ℕ, ltb, length, drop}
use Rattle.refusals.specs.declared.Refusal.TheVariants.{NoSuchBus, TextTooShort}
use Rattle.refusals.specs.Outcomes.{Outcome, Cause, ◌⇒◌, outcome, values_or}
use Rattle.table_spec.specs.TableOutcomes.{on_table}
use Rattle.share_spec.specs.Network.{Network}
use Rattle.sheet.specs.Sheet.{sheet_line}

-- ---- any text

-- fewer bytes are lent than the text has
abbrev pub text_causes : List ℕ → ℕ → List Cause
text_causes text lent = (ltb lent (length text) ⇒ TextTooShort) ∷ []

abbrev pub text_outcome : List ℕ → ℕ → Outcome ℕ
text_outcome text lent = outcome (text_causes text lent) (length text)

-- the text at the front of bytes that held x, and behind it what they held there
abbrev pub written : List ℕ → List ℕ → List ℕ
written text x = text ++ drop (length text) x

-- what bytes that held x hold afterwards: accepted, the text is written; refused, what they held
abbrev pub text_after : List ℕ → List ℕ → List ℕ
text_after text x = values_or x (outcome (text_causes text (length x)) (written text x))

-- ---- Sheet line

-- the sheet has no line i; then as for any text
abbrev pub line_causes : Network → ℕ → ℕ → List Cause
line_causes N i lent = on_table N.held ((ltb N.buses i ⇒ NoSuchBus) ∷ text_causes (sheet_line N i) lent)

abbrev pub line_outcome : Network → ℕ → ℕ → Outcome ℕ
line_outcome N i lent = outcome (line_causes N i lent) (length (sheet_line N i))

abbrev pub line_after : Network → ℕ → List ℕ → List ℕ
line_after N i x = values_or x (outcome (line_causes N i (length x)) (written (sheet_line N i) x))
