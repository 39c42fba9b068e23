-- What the sheet program prints for a file. Definitions only.
use Rattle.std.specs.Prelude.{List, ℕ}
use Rattle.refused_line.specs.RefusedLine.{text_or}
use Rattle.table_spec.specs.Limits.{max_entries}
use Rattle.read_spec.specs.ReadOutcome.{read_outcome, file_table}
use Rattle.two_way.specs.TwoWay.{network_of}
use Rattle.whole_sheet.specs.WholeSheet.{whole_sheet}

-- the sheet of the file's network, or why Read refuses the file; the slice that Read is lent has room for any table
abbrev pub printed : List ℕ → List ℕ
printed f = text_or (read_outcome f max_entries) (whole_sheet (network_of (file_table f)))
