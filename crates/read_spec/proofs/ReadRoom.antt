-- The entries of the largest table are enough for every file.
use Rattle.std.specs.Prelude.{true, false, ◌||◌, List, ◌≡◌, refl, ℕ, ◌≤◌, ◌<◌, ltb}
use Rattle.std.proofs.Math.Bool.{or-false}
use Rattle.std.proofs.Common.{sym, ◌∙◌, arith, ltb-true}
use Rattle.lists.proofs.Tests.{split, never_both}
use Rattle.refusals.specs.Outcomes.{Outcome, gives, refuses, Cause}
use Rattle.refusals.specs.Causes.{numbered}
use Rattle.refusals.proofs.Causes.{refused_numbered, first-refuses, then_decides}
use Rattle.table_spec.specs.Limits.{max_entries}
use Rattle.table_spec.specs.Layout.{table_entries}
use Rattle.network.specs.declared.Counts.{Counts}
use Rattle.file_spec.specs.FileBytes.{file_bus_count, need_bytes, file_line_count, records_end, records}
use Rattle.file_spec.specs.Sections.{goes_on, section_causes, counts, sections_outcome}
use Rattle.file_spec.specs.SoundSections.{SoundSections}
use Rattle.file_spec.specs.Records.{file_pair_count}
use Rattle.file_spec.proofs.RecordPairs.{pair_count-le}
use Rattle.read_spec.specs.ReadOutcome.{record_causes, network_counts, read_outcome}
use Rattle.read_spec.proofs.ReadDecides.{sound}

module _ (f : List ℕ) (lent : ℕ) where
  abbrev rest : List Cause
  rest = record_causes (file_bus_count f) (need_bytes f) (file_line_count f) (records f) lent

  -- no section is a cause of 10
  no_section : numbered 10 (section_causes f) ≡ false
  no_section = split (goes_on (records_end f) f) (λ e. rw e) (λ e. rw e)

  -- a file that is refused with 10 has sound sections, and its table would have more entries than are lent
  by_sections : (o : Outcome Counts) → sections_outcome f ≡ o → read_outcome f lent ≡ refuses 10
      → SoundSections f × (lent < table_entries (file_bus_count f) (file_pair_count f))
  by_sections (gives c) s e =
      let entries = table_entries (file_bus_count f) (file_pair_count f) in
      let short : (ltb lent entries || false) ≡ true =
      refused_numbered 10 rest (network_counts f) (sym (then_decides rest (counts f) (network_counts f) (section_causes f) s) ∙ e) in
      (sound f s, ltb-true lent entries (sym (or-false (ltb lent entries)) ∙ short))
  by_sections (refuses k) s e =
      absurd (never_both (refused_numbered 10 (section_causes f) (counts f) (s ∙ sym (first-refuses rest (counts f) (network_counts f) (section_causes f) s) ∙ e)) no_section)

  -- NEVER SHORT: where so many are lent, none is refused for want of them
  pub never_short : max_entries ≤ lent → read_outcome f lent ≡ refuses 10 → ⊥
  never_short room e =
      let w = by_sections (sections_outcome f) refl e in
      omega (arith, w.1, w.0.first.buses, w.0.lines, pair_count-le (file_line_count f) (records f))
