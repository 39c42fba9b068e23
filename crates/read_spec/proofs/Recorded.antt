-- What Read stored is what the file records, and what it refused left the slice as it was.
use Rattle.std.specs.Prelude.{true, List, ◌++◌, ◌≡◌, ℕ, ◌*◌, length, drop}
use Rattle.std.proofs.Common.{sym, ap, ap₂, subst, ◌∙◌, arith}
use Rattle.std.proofs.lemmas.Bool.{not-false}
use Rattle.lists.specs.Lists.{has}
use Rattle.lists.specs.Below.{join_below}
use Rattle.lists.proofs.Loops.{all_below-at}
use Rattle.lists.proofs.JoinBelow.{length-map_below}
use Rattle.refusals.specs.Outcomes.{Outcome, gives, refuses, values_or}
use Rattle.refusals.proofs.Causes.{part-answered}
use Rattle.refusals.proofs.Due.{both}
use Rattle.table_spec.specs.Limits.{max_need, max_weight}
use Rattle.table_spec.specs.Layout.{bus_count, lines, table_entries, table_of}
use Rattle.table_spec.specs.Holds.{Holds}
use Rattle.table_spec.specs.TableOutcomes.{SameNetwork}
use Rattle.table_spec.proofs.Facts.{range_facts}
use Rattle.table_spec.proofs.Laid.{length-table_of, made-bus_count, made-needs, made-weights, made-last, made_row, made_holds, made_beyond}
use Rattle.table_spec.proofs.LineCount.{two_for_each}
use Rattle.network.specs.declared.Counts.{Counts}
use Rattle.file_spec.specs.FileBytes.{file_bus_count, need_bytes, file_line_count, records, weight_bytes, weight_in, file_weights}
use Rattle.file_spec.specs.Sections.{sound_ends}
use Rattle.file_spec.proofs.SoundSections.{length-need_bytes, ends_facts}
use Rattle.file_spec.specs.Records.{neighbours, pair_count, file_pair_count}
use Rattle.file_spec.proofs.RecordPairs.{joined_sym, rows-length}
use Rattle.file_spec.proofs.RecordNeighbours.{neighbours_valid, neighbours-max-le, neighbours-joined}
use Rattle.read_spec.specs.ReadOutcome.{read_causes, network_counts, read_outcome, file_table, stored_table, table_after, AsRecorded, Recorded}
use Rattle.read_spec.specs.ReadDecides.{ReadDue}
use Rattle.read_spec.proofs.ReadDecides.{whole, sound_ends_lem, none_too_high, none_above, counts-given, table_stored}

-- a refused Read changes nothing
pub kept : (f t : List ℕ) {k : ℕ} → read_outcome f (length t) ≡ refuses k → table_after f t ≡ t
kept f t e = sym (ap (values_or t) (part-answered (λ c. stored_table f t) (read_causes f (length t)) (network_counts f) (sym e)))

-- the file is accepted
module _ (f t : List ℕ) {c : Counts} (e : read_outcome f (length t) ≡ gives c) where
  abbrev n : ℕ
  n = file_bus_count f

  abbrev m : ℕ
  m = file_line_count f

  abbrev r : List ℕ
  r = records f

  ends : sound_ends n m r ≡ true
  ends = sound_ends_lem f t e

  abbrev q : List ℕ
  q = need_bytes f

  abbrev w : List ℕ
  w = file_weights f

  abbrev rows : ℕ → List ℕ
  rows = neighbours n m r

  abbrev rest : List ℕ
  rest = drop (length (file_table f)) t

  stored : table_after f t ≡ table_of n q w rows ++ rest
  unfolding stored_table file_table
  stored = table_stored f t e

  long : length q ≡ n
  long = length-need_bytes (whole f t e)

  wide : length w ≡ n
  wide = length-map_below n (weight_in (weight_bytes f))

  held : Holds (table_of n q w rows ++ rest)
  held =
      made_holds n q w rows rest long wide (whole f t e).first.positive (whole f t e).first.buses (range_facts max_need q (whole f t e).first.needs) (range_facts max_weight w (whole f t e).weights)
      (λ i b. neighbours_valid n m r ends i) (neighbours-max-le n m r (none_too_high f t e))
      (λ i j b c. neighbours-joined n m r ends i j ∙ joined_sym m r i j ∙ sym (neighbours-joined n m r ends j i)) (λ i b. all_below-at _ n (not-false _ (none_above f t e)) b)

  numbers : length (join_below n rows) ≡ 2 * pair_count m r
  numbers = rows-length n m r (ends_facts n m r ends)

  -- the table has as many entries as refusal 10 asks for
  pub entries : length (file_table f) ≡ table_entries n (file_pair_count f)
  unfolding file_table
  entries = omega (arith, length-table_of n q w rows long wide, numbers)

  -- the slice holds exactly what the file records
  same_buses : bus_count (table_of n q w rows ++ rest) ≡ n
  same_buses = made-bus_count n q w rows rest long wide

  same_lines : lines (table_of n q w rows ++ rest) ≡ file_pair_count f
  same_lines = omega (arith, two_for_each _ held, made-last n q w rows rest long wide, numbers)

  pub recorded : AsRecorded f c (table_after f t)
  recorded =
      rw stored
      record {
        holding = held;
        buses = same_buses;
        needed = made-needs n q w rows rest long wide;
        weighed = made-weights n q w rows rest long wide;
        lined = same_lines;
        joining = λ i j b. ap (has j) (made_row n q w rows rest long wide i b) ∙ neighbours-joined n m r ends i j;
        counted = counts-given f t e ∙ sym (ap₂ (λ (a b : ℕ). record { buses = a; lines = b }) same_buses same_lines);
      }

  -- and to every call the file's table, whatever stands behind it
  pub stored_same : SameNetwork (table_after f t) (file_table f)
  unfolding file_table
  stored_same = rw stored (made_beyond n q w rows long wide rest)

-- what is answered and stored as it is due is so for every file and slice
all_recorded : (f t : List ℕ) (o : Outcome Counts) {t' : List ℕ} → o ≡ read_outcome f (length t) → t' ≡ table_after f t → Recorded f t o t'
all_recorded f t (gives c) e s = subst (AsRecorded f c) (sym s) (recorded f t (sym e))
all_recorded f t (refuses k) e s = s ∙ kept f t (sym e)

pub read_recorded : (f t : List ℕ) {o : Outcome Counts} {t' : List ℕ} → ReadDue f t o t' → (o ≡ read_outcome f (length t)) × ((t' ≡ table_after f t) × Recorded f t o t')
read_recorded f t {o} d = let b = both d in (b.0, (b.1, all_recorded f t o b.0 b.1))
