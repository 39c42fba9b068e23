-- What the outage program prints for its input: a two-byte line number, low byte first, and then a network file.
-- Definitions only.
use Rattle.std.specs.Prelude.{cond, List, [], ◌∷◌, ◌++◌, ℕ, ltb, ℤ, length, drop}
use Rattle.lists.specs.Below.{join_below}
use Rattle.signed.specs.Signed.{signed_at}
use Rattle.text.specs.Text.{decimal, signed_decimal}
use Rattle.refused_line.specs.RefusedLine.{refused_line, text_or}
use Rattle.table_spec.specs.Limits.{max_buses, max_entries}
use Rattle.table_spec.specs.Layout.{bus_count}
use Rattle.file_spec.specs.FileBytes.{word_at}
use Rattle.read_spec.specs.ReadOutcome.{read_outcome, file_table}
use Rattle.outage_spec.specs.Outage.{change}
use Rattle.outage_spec.specs.StudyOutcome.{study_outcome}

-- ---- lines

-- the line of a bus: the bus, a space and its change, ended by byte 10
abbrev pub line_of : ℕ → ℤ → List ℕ
line_of bus change = decimal bus ++ (32 ∷ signed_decimal change) ++ (10 ∷ [])

-- a line for each of a list of changes, bus 0 first
abbrev pub lines_of : List ℤ → List ℕ
lines_of changes = join_below (length changes) (λ v. line_of v (signed_at changes v))

-- the line of bus v when line k of a table goes out
abbrev pub change_line : List ℕ → ℕ → ℕ → List ℕ
change_line t k v = line_of v (change t k v)

abbrev pub change_lines : List ℕ → ℕ → List ℕ
change_lines t k = join_below (bus_count t) (change_line t k)

-- ---- what is printed

-- the changes of all buses when line k goes out, or why the study refuses the line; the entries that it is lent are enough for any network
abbrev pub studied : List ℕ → ℕ → List ℕ
studied t k = text_or (study_outcome t k max_buses) (change_lines t k)

-- of the file's network, or why Read refuses the file; the slice that Read is lent has room for any table
abbrev pub file_studied : List ℕ → ℕ → List ℕ
file_studied f k = text_or (read_outcome f max_entries) (studied (file_table f) k)

-- an input of fewer than two bytes is refused as a file that ends too early; else the file stands behind the line number
abbrev pub printed : List ℕ → List ℕ
printed input = cond (ltb (length input) 2) (refused_line 1) (file_studied (drop 2 input) (word_at input 0))
