-- What is printed once Read has answered.
use Rattle.std.specs.Prelude.{List, ◌≡◌, ℕ, length}
use Rattle.std.proofs.Common.{sym, ap, ◌∙◌}
use Rattle.refused_line.specs.RefusedLine.{refused_line, text_or}
use Rattle.refusals.specs.Outcomes.{gives, refuses}
use Rattle.table_spec.specs.Limits.{max_entries}
use Rattle.network.specs.declared.Counts.{Counts}
use Rattle.read_spec.specs.ReadOutcome.{read_outcome, file_table, table_after}
use Rattle.read_spec.proofs.Recorded.{stored_same}
use Rattle.two_way.specs.TwoWay.{network_of}
use Rattle.two_way.proofs.SameTable.{same_network}
use Rattle.whole_sheet.specs.WholeSheet.{whole_sheet}
use Rattle.report.specs.Report.{printed}

-- Read was lent x, which has room for any table
module _ (f x : List ℕ) (room : length x ≡ max_entries) where
  pub print_sheet : {c : Counts} → read_outcome f (length x) ≡ gives c → whole_sheet (network_of (table_after f x)) ≡ printed f
  print_sheet e = ap whole_sheet (same_network (stored_same f x e)) ∙ sym (ap (λ o. text_or o (whole_sheet (network_of (file_table f)))) (rw room at e))

  pub print_refusal : {k : ℕ} → read_outcome f (length x) ≡ refuses k → refused_line k ≡ printed f
  print_refusal e = sym (ap (λ o. text_or o (whole_sheet (network_of (file_table f)))) (rw room at e))
