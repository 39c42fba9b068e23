-- How long the parts of a table are, and that its rows lie among them.
use Rattle.std.specs.Prelude.{List, ◌≡◌, ℕ, ◌+◌, ◌≤◌, ◌<◌, length}
use Rattle.std.proofs.Common.{ap, refl, ◌∙◌, arith}
use Rattle.lists.specs.Lists.{at}
use Rattle.table_spec.specs.Layout.{bus_count, row, row_at, row_start, starts_at}
use Rattle.table_spec.proofs.Rows.{length-needs, length-weights, length-starts, row_lies, row_in}
use Rattle.network.specs.TableParts.{TableParts}

module _ {v t q w s l : List ℕ} (p : TableParts t q w s l) (e : t ≡ v) where
  pub length_needed : length q ≡ bus_count v
  length_needed = ap length p.needed ∙ length-needs t p.scorable.complete ∙ ap bus_count e

  pub length_weighed : length w ≡ bus_count v
  length_weighed = ap length p.weighed ∙ length-weights t p.scorable.complete ∙ ap bus_count e

  pub length_started : length s ≡ bus_count v + 1
  length_started = ap length p.started ∙ length-starts _ t p.scorable.complete ∙ ap (λ x. bus_count x + 1) e

  pub part_lies : (i : ℕ) → i < bus_count v → (i + 1 < length s) × (at s i ≤ at s (i + 1)) × (at s (i + 1) ≤ length l)
  part_lies i b = rw (p.started, p.numbered) (row_lies _ _ _ p.scorable.rows.spans i (rw (← e) at b))

  pub part_row : (i : ℕ) → row_at s l i ≡ row v i
  part_row i = rw (← e) (row_in t i refl p.started p.numbered)

  -- where a row begins, as code adds it up
  pub part_start : (i : ℕ) {a b : ℕ} → a ≡ starts_at t → b ≡ at s i → a + length s + b ≡ row_start v i
  part_start i ea eb = rw (← e) (rw (ea, eb, p.started, length-starts (starts_at t) t p.scorable.complete) (omega arith))
