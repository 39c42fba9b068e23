-- The rows of a network, laid out again, are its table.
use mathlib.Core.List.{List, ◌∷◌, ◌++◌, append_assoc}
use Rattle.std.specs.Prelude.{◌≡◌, length}
use Rattle.std.proofs.Math.Path.{sym, ap, ap₂}
use Rattle.std.proofs.Common.{◌∙◌, add-one, arith}
use Prim.Native.Nat.{ℕ, zero, suc, ◌+◌, ◌≤◌}
use Rattle.std.proofs.Math.ListN.{take}
use Rattle.std.proofs.Math.Seq.{take_all}
use Rattle.lists.specs.Lists.{at, part}
use Rattle.lists.specs.Below.{join_below, map_below}
use Rattle.lists.proofs.Places.{take_next, take_part}
use Rattle.lists.proofs.JoinBelow.{length-join_below, map_below-same, map_below-entries}
use Rattle.table_spec.specs.Layout.{row_at, laid, bus_count, needs, weights, starts, entries, neighbour_numbers, weights_from, starts_at, row, table_of}
use Rattle.table_spec.specs.Holds.{SoundRows, Scorable}
use Rattle.table_spec.proofs.Rows.{length-starts, length-numbers, last_start}
use Rattle.table_spec.proofs.LineCount.{start_sum}

module _ (n : ℕ) (s l : List ℕ) (w : SoundRows n s l) where
  rows_before : (i : ℕ) → i ≤ n → join_below i (row_at s l) ≡ take (at s i) l
  unfolding join_below row_at
  rows_before zero b = sym (ap (λ k. take k l) w.first)
  rows_before (suc i) b =
      ap (λ r. r ++ part (at s i) (at s (i + 1)) l) (rows_before i (omega arith))
      ∙ take_part (at s i) (at s (i + 1)) l (w.spans.steps i b).0
      ∙ ap (λ k. take (at s k) l) (add-one i)

  starts_again : length s ≡ n + 1 → map_below (n + 1) (λ i. length (join_below i (row_at s l))) ≡ s
  starts_again e =
      map_below-same _ (at s) (n + 1) (λ i b. length-join_below i (row_at s l) ∙ sym (start_sum n s l w i (omega arith)))
      ∙ ap (λ k. map_below k (at s)) (sym e)
      ∙ map_below-entries s

  laid_again : length s ≡ n + 1 → length l ≡ at s n → laid n (row_at s l) ≡ s ++ l
  unfolding laid
  laid_again e f = ap₂ ◌++◌ (starts_again e) (rows_before n (omega arith) ∙ take_all (at s n) l (omega arith))

module _ (t : List ℕ) (w : Scorable t) where
  abbrev n : ℕ
  n = bus_count t

  abbrev from : ℕ
  from = starts_at t

  first_sections : n ∷ needs t ++ weights t ≡ take from t
  unfolding needs weights
  first_sections =
      ap (λ r. (r ++ part 1 (1 + n) t) ++ part (weights_from n) from t) (sym (take_next 0 t (omega (arith, w.complete.whole))))
      ∙ ap (λ r. r ++ part (weights_from n) from t) (take_part 1 (1 + n) t (omega arith))
      ∙ take_part (weights_from n) from t (omega arith)

  other_sections : take from t ++ (starts from t ++ neighbour_numbers from t) ≡ take (entries from t) t
  unfolding starts neighbour_numbers
  other_sections =
      sym (append_assoc (take from t) (part from (from + n + 1) t) (part (from + n + 1) (entries from t) t))
      ∙ ap (λ r. r ++ part (from + n + 1) (entries from t) t) (take_part from (from + n + 1) t (omega arith))
      ∙ take_part (from + n + 1) (entries from t) t (omega arith)

  -- THE SAME TABLE
  pub made_again : table_of (bus_count t) (needs t) (weights t) (row t) ≡ take (entries (starts_at t) t) t
  unfolding table_of row
  made_again =
      let c = w.complete in
      let rows = laid_again n (starts from t) (neighbour_numbers from t) w.rows (length-starts from t c) (length-numbers from t c ∙ sym (last_start from t c)) in
      ap₂ ◌++◌ first_sections rows ∙ other_sections
