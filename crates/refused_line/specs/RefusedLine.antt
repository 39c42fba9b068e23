-- The line that a program prints for a refusal. Definitions only.
use Rattle.std.specs.Prelude.{List, [], ◌∷◌, ℕ}
use Rattle.refusals.specs.Outcomes.{Outcome, gives, refuses}
use Rattle.text.specs.Text.{filled}

-- `refused #`, ended by byte 10
abbrev pub refused_form : List ℕ
refused_form = 114 ∷ 101 ∷ 102 ∷ 117 ∷ 115 ∷ 101 ∷ 100 ∷ 32 ∷ 35 ∷ 10 ∷ []

abbrev pub refused_line : ℕ → List ℕ
refused_line number = filled refused_form (number ∷ [])

-- a text, or the line of the refusal
abbrev pub text_or : {A : Type 0} → Outcome A → List ℕ → List ℕ
text_or (gives values) text = text
text_or (refuses number) text = refused_line number

-- bytes that are enough for the line of every number of one byte
abbrev pub longest_refusal : ℕ
longest_refusal = 12
