-- How the writer comes out, that the bytes of the largest file are enough for it, and that entries beyond the table never matter.
use Rattle.std.specs.Prelude.{true, List, ◌++◌, ◌≡◌, refl, ℕ, ◌≤◌, length}
use Rattle.std.proofs.Common.{le_trans, arith, ltb-false, le-ltb}
use Rattle.std.proofs.lemmas.Bool.{not-false}
use Rattle.lists.specs.Lists.{put}
use Rattle.lists.proofs.Tests.{or-none}
use Rattle.refusals.specs.Outcomes.{Outcome, gives, Cause}
use Rattle.refusals.proofs.Causes.{no_cause, none-numbered}
use Rattle.refusals.specs.Due.{Due}
use Rattle.refusals.proofs.Due.{both}
use Rattle.table_spec.specs.Limits.{max_bytes}
use Rattle.table_spec.specs.Layout.{entries, starts_at, lines}
use Rattle.table_spec.specs.Holds.{holds}
use Rattle.table_spec.specs.TableOutcomes.{SameNetwork}
use Rattle.table_spec.proofs.Facts.{holds_facts}
use Rattle.table_spec.proofs.LineCount.{lines-le}
use Rattle.table_spec.proofs.BeyondTable.{beyond}
use Rattle.write_spec.specs.FileOf.{pair_records, file_of}
use Rattle.write_spec.specs.WriteOutcome.{write_causes, write_outcome, bytes_after}
use Rattle.write_spec.proofs.PairLaws.{length-file_of, weight_section-le}

-- what is due of the writer is answered and written
pub write_due : (t x : List ℕ) {o : Outcome ℕ} {y : List ℕ} → Due (write_causes t (length x)) (length (file_of t)) (put x 0 (file_of t)) x o y
    → (o ≡ write_outcome t (length x)) × (y ≡ bytes_after t x)
write_due t x d = both d

-- where the writer accepts a slice, it holds a network, and its file fits
module _ (t : List ℕ) (lent : ℕ) {bytes : ℕ} (e : write_outcome t lent ≡ gives bytes) where
  abbrev causes : List Cause
  causes = write_causes t lent

  pub accepted_holds : holds t ≡ true
  accepted_holds = not-false (holds t) (or-none _ _ (none-numbered 11 causes (no_cause causes (length (file_of t)) e).0)).0

  pub accepted_fits : length (file_of t) ≤ lent
  accepted_fits = ltb-false lent (length (file_of t)) (or-none _ _ (none-numbered 16 causes (no_cause causes (length (file_of t)) e).0)).0

  pub accepted_bytes : bytes ≡ length (file_of t)
  accepted_bytes = (no_cause causes (length (file_of t)) e).1

module _ (t : List ℕ) (h : holds t ≡ true) where
  -- so a file that fits is written
  pub fitting : (x : List ℕ) → length (file_of t) ≤ length x → (write_outcome t (length x) ≡ gives (length (file_of t))) × (bytes_after t x ≡ put x 0 (file_of t))
  fitting x l = rw (h, le-ltb (length x) (length (file_of t)) l) (refl, refl)

  -- EVERY FILE FITS: none has more bytes than the largest that Read accepts
  pub file_fits : length (file_of t) ≤ max_bytes
  file_fits = let w = holds_facts t h in omega (arith, length-file_of t w, weight_section-le t w, w.shape.complete.most, lines-le t w)

  -- so a call that is lent so many bytes is not refused for want of them
  pub never_short : (x : List ℕ) → max_bytes ≤ length x → write_outcome t (length x) ≡ gives (length (file_of t))
  never_short x l = (fitting x (le_trans file_fits l)).0

-- slices that are the same network have the same file
pub same-file : {a b : List ℕ} → SameNetwork a b → file_of a ≡ file_of b
unfolding file_of pair_records lines
same-file w = simp (w.sizes, w.needed, w.weighed, w.rows)

-- ENTRIES BEYOND THE TABLE NEVER MATTER, x or y
pub beyond_file : (t x y : List ℕ) → entries (starts_at t) t ≤ length t → (bytes : List ℕ)
    → (write_outcome (t ++ x) (length bytes) ≡ write_outcome (t ++ y) (length bytes)) × (bytes_after (t ++ x) bytes ≡ bytes_after (t ++ y) bytes)
beyond_file t x y w bytes =
    let s = beyond t x y w in
    let e = same-file s in
    rw (s.judged, e) (refl, refl)
