-- READ BACK: Read accepts the file of a network, gives its n and m, and stores its table.
use Rattle.std.specs.Prelude.{true, false, not, List, ◌∷◌, ◌++◌, ◌≡◌, ℕ, ◌*◌, ◌≤◌, ◌<◌, ltb, length}
use Rattle.std.proofs.Common.{⊎_elim, ap₂, subst, ◌∙◌, zero-add, arith, ltb-true, ltb-false}
use Rattle.std.proofs.Math.Path.{sym, ap}
use Rattle.std.proofs.Math.ListN.{take}
use Rattle.lists.specs.Lists.{has, put}
use Rattle.lists.proofs.Tests.{split, same_test}
use Rattle.lists.proofs.Loops.{all_below_by}
use Rattle.lists.proofs.Counts.{has_in}
use Rattle.lists.proofs.JoinBelow.{join_below-same}
use Rattle.lists.proofs.ListBelow.{list_below-same, list_below_members}
use Rattle.lists.proofs.Writes.{put_front, written-front}
use Rattle.refusals.specs.Outcomes.{gives}
use Rattle.table_spec.specs.Limits.{max_need, max_weight}
use Rattle.table_spec.specs.Layout.{bus_count, needs, weights, entries, starts_at, row, lines, table_entries, table_of}
use Rattle.table_spec.specs.Holds.{Holds}
use Rattle.table_spec.proofs.Rows.{valid_below, valid_others, length-needs, length-weights, row_valid, degree-le}
use Rattle.table_spec.proofs.Facts.{range_test, holds_facts, holds-needs, holds-weights}
use Rattle.table_spec.specs.Lines.{lower_bus, upper_bus}
use Rattle.table_spec.proofs.LineCount.{length-rows, lines-le, entries-all}
use Rattle.table_spec.proofs.LinePairs.{pairs_in, in_pairs, pairs_ascend, mirror, neighbour-below, length_pairs}
use Rattle.table_spec.proofs.Laid.{laid_same}
use Rattle.table_spec.proofs.LaidAgain.{made_again}
use Rattle.file_spec.specs.FileBytes.{file_bus_count, need_bytes, file_line_count, records_end, records, first_end, second_end, file_weights}
use Rattle.file_spec.specs.SoundSections.{SoundWeightSection, SoundSections, SoundEnds}
use Rattle.file_spec.proofs.SoundSections.{ends_test}
use Rattle.file_spec.specs.RecordOrder.{out_of_order}
use Rattle.file_spec.specs.Records.{joined, neighbours, degree_too_high, need_above_degree, pair_count}
use Rattle.file_spec.proofs.RecordPairs.{joined_sym, joined_at, joined_by, rows-length}
use Rattle.file_spec.proofs.RecordNeighbours.{degrees_test}
use Rattle.file_spec.proofs.OrderedRecords.{order_test}
use Rattle.read_spec.specs.ReadOutcome.{network_counts, read_outcome, file_table, stored_table}
use Rattle.read_spec.proofs.ReadDecides.{read_accepts, table_stored}
use Rattle.write_spec.specs.FileOf.{pair_records, weight_section, file_of}
use Rattle.write_spec.specs.WriteOutcome.{write_outcome, bytes_after}
use Rattle.write_spec.specs.RoundTrip.{ReadBack}
use Rattle.write_spec.proofs.WrittenWords.{first-written, second_written}
use Rattle.write_spec.proofs.WrittenBytes.{buses_written, needs-written, lines-written, records-written}
use Rattle.write_spec.proofs.WrittenWeights.{weights-written, third_written}
use Rattle.write_spec.proofs.WriteDue.{accepted_holds, accepted_fits, accepted_bytes, fitting}
use Rattle.write_spec.proofs.PairLaws.{records-pairs, length-pair_records, length-file_of}

-- ---- what the records of a network's file say

module _ (t : List ℕ) (w : Holds t) where
  abbrev n : ℕ
  n = bus_count t

  abbrev m : ℕ
  m = lines t

  abbrev r : List ℕ
  r = pair_records n (row t)

  -- record k names pair k
  first_named : (k : ℕ) → k < m → first_end r k ≡ lower_bus n (row t) k
  first_named k h = ap (λ l. first_end l k) (records-pairs t w) ∙ first-written (lower_bus n (row t)) (upper_bus n (row t)) m h

  second_named : (k : ℕ) → k < m → second_end r k ≡ upper_bus n (row t) k
  second_named k h = ap (λ l. second_end l k) (records-pairs t w) ∙ second_written (lower_bus n (row t)) (upper_bus n (row t)) m h

  -- which are two neighbours, the lower first
  named : (k : ℕ) → k < m → (first_end r k < n) × (first_end r k < second_end r k) × (has (second_end r k) (row t (first_end r k)) ≡ true)
  named k h = rw (first_named k h, second_named k h) (pairs_in n (row t) k (omega (arith, length_pairs t w)))

  ends : SoundEnds n m r
  ends k h = let z = named k h in (z.0, neighbour-below t w _ _ z.0 z.2, λ e. omega (arith, z.1, e))

  order : out_of_order m r ≡ false
  order =
      order_test m r (λ k h. ((named k h).1, omega (arith, (ends k h).1, w.shape.complete.most)))
      (λ j k l h. omega (
        arith,
        first_named j (omega arith),
        second_named j (omega arith),
        first_named k h,
        second_named k h,
        pairs_ascend n (row t) j k l (omega (arith, length_pairs t w)),
      ))

  -- two buses are joined exactly if they are neighbours
  recorded : (i j : ℕ) → i < n → i < j → has j (row t i) ≡ true → joined m r i j ≡ true
  recorded i j b l h =
      let z = in_pairs n (row t) w.shape.complete.most (neighbour-below t w) i j b l h in
      let k : z.0 < m = omega (arith, z.1, length_pairs t w) in
      joined_by m r i j z.0 k (first_named z.0 k ∙ z.2) (second_named z.0 k ∙ z.3)

  joined-row : (i j : ℕ) → i < n → joined m r i j ≡ has j (row t i)
  joined-row i j b = same_test (joined m r i j) (has j (row t i)) to_row to_joined
    where
      to_row : joined m r i j ≡ true → has j (row t i) ≡ true
      to_row h =
          let z = joined_at m r i j h in
          let k = named z.0 z.1 in
          ⊎_elim
          (λ e. sym (ap₂ (λ a b. has b (row t a)) e.0 e.1) ∙ k.2)
          (λ e. mirror t w i j b (omega (arith, e.0, k.0)) ∙ sym (ap₂ (λ a b. has b (row t a)) e.0 e.1) ∙ k.2)
          z.2

      to_joined : has j (row t i) ≡ true → joined m r i j ≡ true
      to_joined h =
          let c = neighbour-below t w i j b h in
          split (ltb i j)
          (λ e. recorded i j b (ltb-true i j e) h)
          (λ e. let d : i ≡ j → ⊥ = λ q. valid_others (row_valid w.shape i b) (has_in i (row t i) (ap (λ x. has x (row t i)) q ∙ h)) in
          let g = ltb-false i j e in
          joined_sym m r i j ∙ recorded j i c (omega (arith, d)) (sym (mirror t w i j b c) ∙ h))

  -- so each bus gets its row back
  neighbours-row : (i : ℕ) → i < n → neighbours n m r i ≡ row t i
  unfolding neighbours
  neighbours-row i b =
      let v = row_valid w.shape i b in
      list_below-same _ _ n (λ j c. joined-row i j b) ∙ list_below_members n (row t i) v.ascends (valid_below v)

  degrees : degree_too_high n m r ≡ false
  degrees = degrees_test n m r (λ i b. rw (neighbours-row i b) (degree-le w.shape i b))

  met : need_above_degree n (needs t) m r ≡ false
  met = ap not (all_below_by _ n (λ i b. rw (neighbours-row i b) (w.met i b)))

  -- and no pair is named twice
  once : pair_count m r ≡ m
  once = omega (arith, rows-length n m r ends, ap length (join_below-same (neighbours n m r) (row t) n neighbours-row), length-rows t w)

  -- ---- the file has them, behind the bus count, the needs and their number, and then the weights

  abbrev f : List ℕ
  f = file_of t

  long : length (needs t) ≡ n
  long = length-needs t w.shape.complete

  full : length r ≡ 4 * m
  full = length-pair_records t w

  abbrev s : List ℕ
  s = weight_section (weights t)

  wide : length (weights t) ≡ n
  wide = length-weights t w.shape.complete

  same_buses : file_bus_count f ≡ n
  unfolding file_of
  same_buses = buses_written n m (needs t) r s

  same-needs : need_bytes f ≡ needs t
  unfolding file_of
  same-needs = needs-written n m (needs t) r s long

  same_lines : file_line_count f ≡ m
  unfolding file_of
  same_lines = lines-written n m (needs t) r s long

  same-records : records f ≡ r
  unfolding file_of
  same-records = records-written n m (needs t) r s long full

  same-weights : file_weights f ≡ weights t
  unfolding file_of
  same-weights = weights-written n m (needs t) r (weights t) long full wide w.shape.complete.least

  third : records_end f < length f → SoundWeightSection f
  unfolding file_of
  third = third_written n m (needs t) r (weights t) long full wide w.shape.complete.least

  sections : SoundSections f
  sections =
      record {
        first = record {
          positive = omega (arith, same_buses, w.shape.complete.least);
          buses = omega (arith, same_buses, w.shape.complete.most);
          complete = omega (arith, same_buses, length-file_of t w);
          needs = rw same-needs (range_test max_need (needs t) (holds-needs t w));
        };
        lines = omega (arith, same_lines, lines-le t w);
        complete = omega (arith, same_buses, same_lines, length-file_of t w);
        third = third;
        weights = rw same-weights (range_test max_weight (weights t) (holds-weights t w));
      }

  -- the table that the file records is the network's
  table_again : file_table f ≡ take (entries (starts_at t) t) t
  unfolding file_table table_of
  table_again =
      rw (same-weights, same-records, same-needs, same_lines, same_buses) (ap (λ l. (n ∷ needs t ++ weights t) ++ l) (laid_same (neighbours n m r) (row t) n neighbours-row))
      ∙ made_again t w.shape

  accepted : (x : List ℕ) → table_entries n m ≤ length x → read_outcome f (length x) ≡ gives (network_counts f)
  accepted x room =
      read_accepts f x sections
      (rw (same-records, same_lines, same_buses) (ends_test n m r ends))
      (rw (same-records, same_lines) order)
      (rw (same-records, same_lines, same_buses) degrees)
      (rw (same-needs, same-records, same_lines, same_buses) met)
      (rw (same-records, same_lines, same_buses, once) room)

  file-read : (x : List ℕ) → table_entries n m ≤ length x → ReadBack t (file_of t) x
  unfolding stored_table
  file-read x room =
      let counts : network_counts f ≡ record { buses = n; lines = m } = rw (same-records, same_lines, same_buses, once) in
      record {
        answer = accepted x room ∙ ap gives counts;
        stored = table_stored f x (accepted x room) ∙ sym (put_front x (file_table f)) ∙ ap (put x 0) (table_again ∙ ap (λ k. take k t) (entries-all t w));
      }

-- READ BACK: of every slice t, where the writer accepts it, whatever bytes y it is lent, Read of the bytes that it wrote gives n and m and
-- stores the table, into every slice x with so many entries
pub read_back : (t x y : List ℕ) {bytes : ℕ} → write_outcome t (length y) ≡ gives bytes → table_entries (bus_count t) (lines t) ≤ length x → ReadBack t (take bytes (bytes_after t y)) x
read_back t x y e room =
    let h = accepted_holds t (length y) e in
    let front = written-front (file_of t) y (accepted_bytes t (length y) e ∙ sym (zero-add (length (file_of t))), (fitting t h y (accepted_fits t (length y) e)).1) in
    subst (λ f. ReadBack t f x) (sym front) (file-read t (holds_facts t h) x room)
