-- GIVEN BACK: a file that Read accepts, without parallel circuits and without a section of all ones, is the file of the table that it stored.
use Rattle.std.proofs.Math.Bool.{true, not}
use Rattle.std.specs.Prelude.{false, ◌&&◌, List, ◌++◌, ◌≡◌, ℕ, ◌*◌, ◌/◌, ◌%◌, ◌≤◌, ◌<◌, ltb, length}
use Rattle.std.proofs.Math.Logic.{⊎_elim}
use Rattle.std.proofs.Math.Path.{refl, ap, ap₂}
use Rattle.std.proofs.Common.{sym, subst, ◌∙◌, arith}
use borrow.Author.Tests.{ltb-true, lt-ltb, not-true}
use Rattle.lists.specs.Lists.{◌∈◌, has, at, put}
use Rattle.lists.specs.Below.{map_below}
use Rattle.lists.proofs.Tests.{same_test, and_both, and_left, and_right}
use Rattle.lists.proofs.Counts.{in_has, has_in}
use Rattle.lists.proofs.SumsBelow.{count_below-all}
use Rattle.lists.proofs.JoinBelow.{join_below-same, map_below-at, map_below_ascends, in_map_below, of_map_below}
use Rattle.lists.proofs.ListBelow.{list_below_by}
use Rattle.refusals.specs.Outcomes.{gives}
use Rattle.table_spec.specs.Limits.{max_buses}
use Rattle.table_spec.specs.Layout.{bus_count, weights, row, lines}
use Rattle.table_spec.proofs.Facts.{holds_test}
use Rattle.table_spec.specs.Lines.{pair_number, is_pair, pairs, lower_bus, upper_bus}
use Rattle.network.specs.declared.Counts.{Counts}
use Rattle.file_spec.specs.FileBytes.{file_bus_count, need_bytes, file_line_count, records_at, records_end, records, first_end, second_end}
use Rattle.file_spec.proofs.SoundSections.{length-records, ends_facts}
use Rattle.file_spec.specs.Records.{repeats, pair_count}
use Rattle.file_spec.proofs.RecordPairs.{joined_at, joined_by}
use Rattle.file_spec.specs.OrderedRecords.{OrderedRecords}
use Rattle.file_spec.proofs.OrderedRecords.{lower_first, rank_rises}
use Rattle.read_spec.specs.ReadOutcome.{read_outcome, table_after, AsRecorded}
use Rattle.read_spec.proofs.ReadDecides.{whole, sound_ends_lem, in_order}
use Rattle.read_spec.proofs.Recorded.{recorded}
use Rattle.write_spec.specs.FileOf.{word, record_of, pair_records, weight_section, file_of}
use Rattle.write_spec.specs.RoundTrip.{AreBytes, NoParallels, NoOnesSection, GivenBack}
use Rattle.write_spec.specs.WrittenWords.{listed}
use Rattle.write_spec.proofs.WrittenWords.{part_bytes, records-listed}
use Rattle.write_spec.proofs.WrittenBytes.{sections_again}
use Rattle.write_spec.proofs.WrittenWeights.{section_again}
use Rattle.write_spec.proofs.PairLaws.{records-pairs}
use Rattle.write_spec.proofs.WriteDue.{fitting}

-- Read accepts the file f, which has no parallel circuits, into a slice that held x
module _ (f x : List ℕ) {c : Counts} (bytes : AreBytes f) (e : read_outcome f (length x) ≡ gives c) (single : NoParallels f) where
  abbrev n : ℕ
  n = file_bus_count f

  abbrev m : ℕ
  m = file_line_count f

  abbrev r : List ℕ
  r = records f

  abbrev t : List ℕ
  t = table_after f x

  stored : AsRecorded f c t
  stored = recorded f x e

  ordered : OrderedRecords n m r
  ordered = record { buses = (whole f x e).first.buses; lines = (whole f x e).lines; ends = ends_facts n m r (sound_ends_lem f x e); order = in_order f x e }

  -- the number of the pair that record k names
  number : ℕ → ℕ
  number k = pair_number (first_end r k) (second_end r k)

  first_of : (k : ℕ) → k < m → number k / max_buses ≡ first_end r k
  unfolding number
  first_of k h = omega (arith, (ordered.ends k h).1, ordered.buses)

  second_of : (k : ℕ) → k < m → number k % max_buses ≡ second_end r k
  unfolding number
  second_of k h = omega (arith, (ordered.ends k h).1, ordered.buses)

  new : (k : ℕ) → k < m → repeats r k ≡ false
  unfolding pair_count
  new k h = not-true (repeats r k) (count_below-all (λ k. not (repeats r k)) m single h)

  -- these are the numbers of the table's pairs
  to_pairs : (y : ℕ) → has y (map_below m number) ≡ true → (ltb y (n * max_buses) && is_pair (row t) y) ≡ true
  unfolding number
  to_pairs y h =
      let z = of_map_below number m y (has_in y (map_below m number) h) in
      let k = z.0 in
      let a = first_end r k in
      let b = second_end r k in
      let s = ordered.ends k z.1 in
      let joins : has b (row t a) ≡ true = stored.joining a b s.0 ∙ joined_by m r a b k z.1 refl refl in
      and_both (ltb y (n * max_buses)) (is_pair (row t) y) (lt-ltb y (n * max_buses) (omega (arith, z.2, s.0, s.1, ordered.buses)))
      (subst (λ y. is_pair (row t) y ≡ true) z.2
      (rw (first_of k z.1, second_of k z.1) (and_both (ltb a b) (has b (row t a)) (lt-ltb a b (lower_first ordered k z.1)) joins)))

  of_pairs : (y : ℕ) → (ltb y (n * max_buses) && is_pair (row t) y) ≡ true → has y (map_below m number) ≡ true
  unfolding number
  of_pairs y h =
      let a = y / max_buses in
      let b = y % max_buses in
      let low : y < n * max_buses = ltb-true y (n * max_buses) (and_left (ltb y (n * max_buses)) (is_pair (row t) y) h) in
      let pair = and_right (ltb y (n * max_buses)) (is_pair (row t) y) h in
      let up : a < b = ltb-true a b (and_left (ltb a b) (has b (row t a)) pair) in
      let z = joined_at m r a b (sym (stored.joining a b (omega arith)) ∙ and_right (ltb a b) (has b (row t a)) pair) in
      ⊎_elim
      (λ q. let same : number z.0 ≡ y = omega (arith, q.0, q.1) in
      in_has y (map_below m number) (subst (λ y. y ∈ map_below m number) same (in_map_below number m z.1)))
      (λ q. absurd (omega (arith, q.0, q.1, lower_first ordered z.0 z.1)))
      z.2

  same-pairs : pairs n (row t) ≡ map_below m number
  unfolding pairs number
  same-pairs =
      list_below_by (n * max_buses) (is_pair (row t)) (map_below m number)
      (map_below_ascends number m (λ j k l h. rank_rises ordered j k l h (new k h)))
      (λ y. same_test (has y (map_below m number)) (ltb y (n * max_buses) && is_pair (row t) y) (to_pairs y) (of_pairs y))

  same_lines : lines t ≡ m
  same_lines = stored.lined ∙ single

  -- so the records of the table's file are the file's own
  same-records : pair_records (bus_count t) (row t) ≡ r
  unfolding records
  same-records =
      let number_at : (k : ℕ) → k < m → at (pairs n (row t)) k ≡ number k = λ k h. ap (λ l. at l k) same-pairs ∙ map_below-at number m h in
      records-pairs t stored.holding
      ∙ ap₂ (λ n m. listed (lower_bus n (row t)) (upper_bus n (row t)) m) stored.buses same_lines
      ∙ join_below-same _ _ m (λ k h. ap₂ record_of (ap (λ c. c / max_buses) (number_at k h) ∙ first_of k h) (ap (λ c. c % max_buses) (number_at k h) ∙ second_of k h))
      ∙ records-listed m r (length-records (whole f x e)) (part_bytes (records_at f) (records_end f) f bytes)

  -- and so is its section of weights, unless that is of all ones
  file_again : NoOnesSection f → file_of (table_after f x) ≡ f
  unfolding file_of
  file_again varied =
      ap₂ (λ n q. word n ++ (q ++ (word (lines t) ++ (pair_records (bus_count t) (row t) ++ weight_section (weights t))))) stored.buses stored.needed
      ∙ ap₂ (λ m r. word n ++ (need_bytes f ++ (word m ++ (r ++ weight_section (weights t))))) same_lines same-records
      ∙ ap (λ s. word n ++ (need_bytes f ++ (word m ++ (r ++ s)))) (ap weight_section stored.weighed ∙ section_again f (whole f x e) bytes varied)
      ∙ sections_again f (whole f x e) bytes

-- GIVEN BACK: of every file f that Read accepts, into whatever slice x, and that has neither parallel circuits nor a section of all ones, the writer
-- writes f from the slice as Read left it, over the front of whatever bytes y it is lent, if they are as many
pub given_back : (f x y : List ℕ) {c : Counts} → AreBytes f → read_outcome f (length x) ≡ gives c → NoParallels f → NoOnesSection f → length f ≤ length y → GivenBack f (table_after f x) y
given_back f x y bytes e single varied h =
    let again = file_again f x bytes e single varied in
    let s = fitting (table_after f x) (holds_test (table_after f x) (recorded f x e).holding) y (omega (arith, ap length again)) in
    record { answer = s.0 ∙ ap (λ l. gives (length l)) again; written = s.1 ∙ ap (put y 0) again }
