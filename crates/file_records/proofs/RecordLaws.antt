-- What a record in order adds to counts and rows.
use Rattle.std.proofs.Common.{true, false, cond, ◌&&◌, List, [], ◌∷◌, ◌++◌, ◌≡◌, sym, ap, ◌∙◌, ℕ, ◌+◌, ◌-◌, ◌≤◌, ◌<◌, arith, ltb-true, eqb-true, eq-eqb, lt-ltb, ltb, eqb, length, set, length-set}
use Rattle.lists.specs.Lists.{indicator, at, Tabled}
use Rattle.lists.proofs.Tests.{same_test, and_left, and_right, eqb_self}
use Rattle.lists.proofs.Loops.{tabled_more}
use Rattle.lists.proofs.JoinBelow.{length-join_below}
use Rattle.table_spec.specs.Limits.{max_buses}
use Rattle.row_builder.specs.GrowingRows.{AllZero, GrowingRows}
use Rattle.row_builder.proofs.GrowingLaws.{length_grown, growing_same, growing_fits, growing_next}
use Rattle.file_spec.specs.FileBytes.{first_end, second_end}
use Rattle.file_spec.proofs.SoundSections.{ends_facts}
use Rattle.file_spec.specs.Records.{neighbours, repeats}
use Rattle.file_spec.proofs.RecordPairs.{neighbours-none, neighbours-le, neighbours_again, neighbours_grows}
use Rattle.file_spec.specs.OrderedRecords.{OrderedRecords}
use Rattle.file_spec.proofs.OrderedRecords.{rows-le, repeats_by, repeats_facts, rows_grow}
use Rattle.file_records.specs.declared.SortedRecords.{SortedRecords}
use Rattle.file_records.specs.RecordSteps.{equals_last, NeighbourCounts}

-- what the type of sorted records says, as laws ask for it
pub ordered : (s : SortedRecords) → OrderedRecords s.buses s.records.count s.records.bytes.now
ordered s = record { buses = s.few.0; lines = s.few.1; ends = ends_facts _ _ _ s.sound; order = s.sorted }

-- without records every count is 0
pub counts-none : (n : ℕ) (r : List ℕ) {counts : List ℕ} → AllZero counts → NeighbourCounts n 0 r counts
counts-none n r z = record { size = z.size; each = λ i b. z.zero i ∙ sym (ap length (neighbours-none n r i)) }

-- no count passes the limit of buses
pub neighbour-count-le : {n k : ℕ} {r counts : List ℕ} → NeighbourCounts n k r counts → {i : ℕ} → i < n → at counts i ≤ n
neighbour-count-le {n} {k} {r} w {i} b = omega (arith, w.each i b, neighbours-le n k r i)

-- all rows together have fewer numbers than a place can count
room : {n m : ℕ} {r : List ℕ} → OrderedRecords n m r → {rows : ℕ → List ℕ} {next all : List ℕ} → GrowingRows n (λ i. length (neighbours n m r i)) rows next all
    → length all < 65535
room {n} {m} {r} g w = omega (arith, w.wide, length-join_below n (neighbours n m r), rows-le g)

-- a record that names a pair again changes none
pub counts_again : {n k : ℕ} {r counts : List ℕ} → NeighbourCounts n k r counts → repeats r k ≡ true → NeighbourCounts n (k + 1) r counts
counts_again {n} {k} {r} w h = record { size = w.size; each = λ i b. w.each i b ∙ sym (ap length (neighbours_again n k r h i)) }

module _ {n m : ℕ} {r : List ℕ} (g : OrderedRecords n m r) {k : ℕ} (l : k < m) where
  -- a record names a pair again exactly if it equals the one before it
  pub repeats-last : equals_last r k ≡ repeats r k
  unfolding equals_last
  repeats-last =
      let a = first_end r k in
      let x = first_end r (k - 1) in
      let c = second_end r k in
      let y = second_end r (k - 1) in
      same_test _ _
      (λ t. let u = ltb-true 0 k (and_left (ltb 0 k) (eqb a x && eqb c y) t) in
      let v = and_right (ltb 0 k) (eqb a x && eqb c y) t in
      repeats_by r (k - 1) k (omega arith) (sym (eqb-true a x (and_left (eqb a x) (eqb c y) v))) (sym (eqb-true c y (and_right (eqb a x) (eqb c y) v))))
      (λ t. let w = repeats_facts g k l t in rw (lt-ltb 0 k w.0, eq-eqb a x (sym w.1), eq-eqb c y (sym w.2)))

  -- its ends were read into a and c; where it names a new pair they get one another
  module _ {a c : ℕ} (e : (a ≡ first_end r k) × (c ≡ second_end r k)) where
    pub first_bus : a < n
    first_bus = omega (arith, e.0, (g.ends k l).0)

    pub second_bus : c < n
    second_bus = omega (arith, e.1, (g.ends k l).1)

    module _ (new : repeats r k ≡ false) where
      -- the row of the first has grown, and not yet that of the second
      abbrev pub rows_half : ℕ → List ℕ
      rows_half i = cond (eqb a i) (neighbours n k r i ++ (c ∷ [])) (neighbours n k r i)

      rows_both : (i : ℕ) → cond (eqb c i) (rows_half i ++ (a ∷ [])) (rows_half i) ≡ neighbours n (k + 1) r i
      rows_both i = rw (e.0, e.1) (rows_grow g k l new i)

      neighbours_more : (i : ℕ) → length (neighbours n (k + 1) r i) ≡ length (neighbours n k r i) + indicator (eqb a i) + indicator (eqb c i)
      neighbours_more i =
          sym (ap length (rows_both i)) ∙ length_grown (eqb c i) (rows_half i) a ∙ ap (λ s. s + indicator (eqb c i)) (length_grown (eqb a i) (neighbours n k r i) c)

      -- each count goes up by one
      module _ {counts counts₁ : List ℕ} (w : NeighbourCounts n k r counts) (p : counts₁ ≡ set counts a (at counts a + 1)) where
        first_counted : Tabled n (λ i. length (neighbours n k r i) + indicator (eqb a i)) counts₁
        first_counted i b =
            ap (λ t. at t i) p ∙ tabled_more (λ i. length (neighbours n k r i)) n counts a w.each first_bus (omega (arith, w.size, first_bus, g.buses)) i b

        pub second_count-le : at counts₁ c ≤ n
        second_count-le = omega (arith, first_counted c second_bus, neighbours_more c, neighbours-le n (k + 1) r c)

        pub counts-next : {counts₂ : List ℕ} → counts₂ ≡ set counts₁ c (at counts₁ c + 1) → NeighbourCounts n (k + 1) r counts₂
        counts-next q =
            let s : length counts₁ ≡ max_buses = ap length p ∙ length-set counts a _ ∙ w.size in
            record {
              size = ap length q ∙ length-set counts₁ c _ ∙ s;
              each = λ i b.
                  ap (λ t. at t i) q
                  ∙ tabled_more (λ i. length (neighbours n k r i) + indicator (eqb a i)) n counts₁ c first_counted second_bus (omega (arith, s, second_bus, g.buses)) i b
                  ∙ sym (neighbours_more i);
            }

      -- each row goes on
      abbrev sizes : ℕ → ℕ
      sizes i = length (neighbours n m r i)

      more_le : (i : ℕ) → length (neighbours n k r i) + indicator (eqb a i) + indicator (eqb c i) ≤ sizes i
      more_le i = omega (arith, neighbours_more i, neighbours_grows n (k + 1) m r i (omega arith))

      first_short : length (neighbours n k r a) < sizes a
      first_short = omega (arith, more_le a, ap indicator (eqb_self a))

      half_le : (i : ℕ) → length (rows_half i) + indicator (eqb c i) ≤ sizes i
      half_le i = omega (arith, more_le i, length_grown (eqb a i) (neighbours n k r i) c)

      second_short : length (rows_half c) < sizes c
      second_short = omega (arith, half_le c, ap indicator (eqb_self c))

      module _ {next all : List ℕ} (w : GrowingRows n sizes (neighbours n k r) next all) where
        pub first_fits : (at next a < length all) × (at next a < 65535)
        first_fits = let f = growing_fits w first_bus first_short in (f, omega (arith, f, room g w))

        pub first-grown : {next₁ all₁ : List ℕ} → all₁ ≡ set all (at next a) c → next₁ ≡ set next a (at next a + 1) → GrowingRows n sizes rows_half next₁ all₁
        first-grown = growing_next w a c first_bus g.buses first_short (λ i b. omega (arith, more_le i))

      module _ {next all : List ℕ} (w : GrowingRows n sizes rows_half next all) where
        pub second_fits : (at next c < length all) × (at next c < 65535)
        second_fits = let f = growing_fits w second_bus second_short in (f, omega (arith, f, room g w))

        pub second_grown : {next₁ all₁ : List ℕ} → all₁ ≡ set all (at next c) a → next₁ ≡ set next c (at next c + 1) → GrowingRows n sizes (neighbours n (k + 1) r) next₁ all₁
        second_grown p q = growing_same (growing_next w c a second_bus g.buses second_short (λ i b. omega (arith, half_le i)) p q) (neighbours n (k + 1) r) (λ i b. rows_both i)
