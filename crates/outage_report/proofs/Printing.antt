-- What is printed once the study has answered, and once Read has.
use Rattle.std.specs.Prelude.{List, ◌≡◌, ℕ, ◌-◌, ◌≤◌, ◌<◌, length, drop}
use Rattle.std.proofs.Common.{sym, ap, ap₂, ◌∙◌, arith, lt-ltb, le-ltb, length-drop, take_all}
use Rattle.std.proofs.Math.Path.{fun_ext}
use Rattle.lists.specs.Lists.{part}
use Rattle.lists.specs.Below.{join_below}
use Rattle.refused_line.specs.RefusedLine.{refused_line, text_or}
use Rattle.refusals.specs.Outcomes.{gives, refuses}
use Rattle.table_spec.specs.Limits.{max_buses, max_entries}
use Rattle.table_spec.specs.TableOutcomes.{SameNetwork}
use Rattle.network.specs.declared.Counts.{Counts}
use Rattle.file_spec.specs.FileBytes.{word_at}
use Rattle.read_spec.specs.ReadOutcome.{read_outcome, file_table, table_after}
use Rattle.read_spec.proofs.Recorded.{stored_same}
use Rattle.outage_spec.specs.StudyOutcome.{study_outcome}
use Rattle.outage_spec.proofs.BeyondStudy.{same-change, same_outcome}
use Rattle.outage_report.specs.OutageReport.{line_of, change_lines, studied, file_studied, printed}

-- the study was lent m entries, enough for any network
module _ (t : List ℕ) (k : ℕ) {m : ℕ} (room : m ≡ max_buses) where
  pub print_changes : {L : ℕ} → study_outcome t k m ≡ gives L → change_lines t k ≡ studied t k
  print_changes e = sym (ap (λ o. text_or o (change_lines t k)) (rw room at e))

  pub print_refused_line : {r : ℕ} → study_outcome t k m ≡ refuses r → refused_line r ≡ studied t k
  print_refused_line e = sym (ap (λ o. text_or o (change_lines t k)) (rw room at e))

-- slices that hold the same network get the same text
same-studied : {a b : List ℕ} → SameNetwork a b → (k : ℕ) → studied a k ≡ studied b k
same-studied w k = ap₂ text_or (same_outcome w k max_buses) (ap₂ (λ n f. join_below n (λ v. line_of v (f v))) w.sizes (fun_ext (same-change w k)))

-- Read was lent x, which has room for any table
module _ (f : List ℕ) (k : ℕ) (x : List ℕ) (room : length x ≡ max_entries) where
  pub print_studied : {c : Counts} → read_outcome f (length x) ≡ gives c → studied (table_after f x) k ≡ file_studied f k
  print_studied e = same-studied (stored_same f x e) k ∙ sym (ap (λ o. text_or o (studied (file_table f) k)) (rw room at e))

  pub print_refused_file : {r : ℕ} → read_outcome f (length x) ≡ refuses r → refused_line r ≡ file_studied f k
  print_refused_file e = sym (ap (λ o. text_or o (studied (file_table f) k)) (rw room at e))

-- the input is too short for a line number
pub print_short : (input : List ℕ) → length input < 2 → refused_line 1 ≡ printed input
print_short input h = sym (rw (lt-ltb (length input) 2 h))

-- or it has one, which code has as k, and the file is the rest of it
pub print_file : (input : List ℕ) {k : ℕ} → 2 ≤ length input → k ≡ word_at input 0 → file_studied (part 2 (length input) input) k ≡ printed input
print_file input h e =
    ap₂ file_studied (take_all (length input - 2) (drop 2 input) (omega (arith, length-drop 2 input))) e ∙ sym (rw (le-ltb (length input) 2 h))
