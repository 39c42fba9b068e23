-- How the causes of Read decide: the sections, or else the records; and what an accepted file has passed.
use Rattle.std.specs.Prelude.{true, false, List, ◌≡◌, ℕ, ◌≤◌, length}
use Rattle.std.proofs.Common.{subst, sym, ◌∙◌, le-ltb}
use Rattle.std.proofs.lemmas.Bool.{not-false}
use Rattle.lists.proofs.Tests.{or-none}
use Rattle.lists.proofs.Writes.{put_front}
use Rattle.refusals.specs.Outcomes.{Outcome, gives, Cause}
use Rattle.refusals.specs.Causes.{NoneHolds}
use Rattle.refusals.proofs.Causes.{no_cause, none-gives, none-numbered, none_both, then_decides}
use Rattle.refusals.specs.Due.{Due}
use Rattle.refusals.proofs.Due.{stage_pass}
use Rattle.table_spec.specs.Layout.{table_entries}
use Rattle.network.specs.declared.Counts.{Counts}
use Rattle.file_spec.specs.FileBytes.{file_bus_count, need_bytes, file_line_count, records, weight_bytes}
use Rattle.file_spec.specs.Sections.{section_causes, counts, sections_outcome, sound_ends}
use Rattle.file_spec.specs.SoundSections.{SoundSections}
use Rattle.file_spec.proofs.SoundSections.{sections_passed, sections_test, length-need_bytes}
use Rattle.file_spec.specs.RecordOrder.{out_of_order}
use Rattle.file_spec.specs.Records.{degree_too_high, need_above_degree, pair_count}
use Rattle.read_spec.specs.ReadStages.{RecordsDue}
use Rattle.read_spec.specs.ReadOutcome.{record_causes, read_causes, network_counts, read_outcome, file_table, stored_table, table_after}
use Rattle.read_spec.specs.ReadDecides.{ReadDue}

-- where the sections are sound the records decide
module _ (f : List ℕ) {c : Counts} (e : sections_outcome f ≡ gives c) where
  pub sound : SoundSections f
  sound = sections_passed f (no_cause (section_causes f) (counts f) e).0

  pub counted : c ≡ counts f
  counted = (no_cause (section_causes f) (counts f) e).1

  pub records_decide : (t : List ℕ) {q b r : List ℕ} {m : ℕ} {o : Outcome Counts} {t' : List ℕ} → q ≡ need_bytes f → b ≡ weight_bytes f → m ≡ file_line_count f → r ≡ records f
      → RecordsDue q b m r t o t' → ReadDue f t o t'
  unfolding stored_table file_table
  records_decide t {q} {b} {r} {m} {o} {t'} eq eb em er d =
      let n = file_bus_count f in
      let d = rw (eq, eb, em, er, length-need_bytes sound) at d in
      stage_pass (section_causes f) (counts f) (sym e)
      (subst (λ s. Due (record_causes n (need_bytes f) (file_line_count f) (records f) (length t)) (network_counts f) s t o t') (put_front t (file_table f)) d)

module _ (f t : List ℕ) where
  abbrev n : ℕ
  n = file_bus_count f

  abbrev m : ℕ
  m = file_line_count f

  abbrev r : List ℕ
  r = records f

  -- an accepted file has passed every test
  module _ {c : Counts} (e : read_outcome f (length t) ≡ gives c) where
    none : NoneHolds (read_causes f (length t))
    none = (no_cause (read_causes f (length t)) (network_counts f) e).0

    abbrev records-causes : List Cause
    records-causes = record_causes n (need_bytes f) m r (length t)

    in_both : NoneHolds (section_causes f) × NoneHolds records-causes
    in_both = none_both (section_causes f) records-causes none

    pub whole : SoundSections f
    whole = sections_passed f in_both.0

    pub sound_ends_lem : sound_ends n m r ≡ true
    sound_ends_lem = not-false _ (or-none _ _ (none-numbered 6 records-causes in_both.1)).0

    pub none_too_high : degree_too_high n m r ≡ false
    none_too_high = (or-none _ _ (none-numbered 7 records-causes in_both.1)).0

    pub none_above : need_above_degree n (need_bytes f) m r ≡ false
    none_above = (or-none _ _ (none-numbered 17 records-causes in_both.1)).0

    pub in_order : out_of_order m r ≡ false
    in_order = (or-none _ _ (none-numbered 15 records-causes in_both.1)).0

    pub counts-given : c ≡ network_counts f
    counts-given = (no_cause (read_causes f (length t)) (network_counts f) e).1

    pub table_stored : table_after f t ≡ stored_table f t
    table_stored = rw (none-gives (read_causes f (length t)) (stored_table f t) none)

  -- and one that passes every test is accepted, where there is room for its table
  pub read_accepts : SoundSections f → sound_ends n m r ≡ true → out_of_order m r ≡ false → degree_too_high n m r ≡ false → need_above_degree n (need_bytes f) m r ≡ false
      → table_entries n (pair_count m r) ≤ length t → read_outcome f (length t) ≡ gives (network_counts f)
  read_accepts s ends order degrees needs room =
      then_decides (record_causes n (need_bytes f) m r (length t)) (counts f) (network_counts f) (section_causes f) (sections_test s)
      ∙ simp (ends, order, degrees, needs, le-ltb (length t) (table_entries n (pair_count m r)) room)
