-- The line of a bus, as code writes it.
use Rattle.std.specs.Prelude.{List, [], ◌∷◌, ◌++◌, ◌≡◌, ℕ, ◌+◌, ◌≤◌, ◌<◌, ℤ, length, set}
use Rattle.std.proofs.Common.{append_assoc, sym, ap, subst, ◌∙◌, arith, length-append}
use Rattle.lists.specs.Lists.{at, WrittenAt}
use Rattle.lists.proofs.Writes.{stored-length, written-append, written_entry}
use Rattle.text.specs.Text.{decimal, signed_decimal, filled}
use Rattle.outage_report.specs.OutageReport.{line_of}
use Rattle.outage_report.specs.ChangeWriting.{bus_form}

-- a bus and a space, then its change, then byte 10
parts : (bus : ℕ) (change : ℤ) → filled bus_form (bus ∷ []) ++ signed_decimal change ++ (10 ∷ []) ≡ line_of bus change
unfolding filled at
parts bus change = ap (λ l. l ++ (10 ∷ [])) (append_assoc (decimal bus) (32 ∷ []) (signed_decimal change))

-- the line of a bus is written into t from place i on, where there is space for it; code has the change as r
module _ (bus : ℕ) (change : ℤ) (t : List ℕ) (i : ℕ) (room : i + length (line_of bus change) ≤ length t) where
  abbrev first : List ℕ
  first = filled bus_form (bus ∷ [])

  long : length (line_of bus change) ≡ length first + length (signed_decimal change) + 1
  long = sym (ap length (parts bus change)) ∙ length-append (first ++ signed_decimal change) (10 ∷ []) ∙ ap (λ n. n + 1) (length-append first (signed_decimal change))

  pub bus_fits : i + length first ≤ length t
  bus_fits = omega (arith, long)

  -- the bus and the space are written
  module _ {j : ℕ} {u : List ℕ} (w : WrittenAt first i t j u) where
    kept : length u ≡ length t
    kept = stored-length t i first w.1 w.0 (omega (arith, w.0, long))

    pub digits_fit : {r : ℤ} → r ≡ change → j + length (signed_decimal r) ≤ length u
    digits_fit q = omega (arith, ap (λ z. length (signed_decimal z)) q, w.0, long, kept)

    -- and the change
    module _ {r : ℤ} {e : ℕ} {v : List ℕ} (q : r ≡ change) (more : WrittenAt (signed_decimal r) j u e v) where
      both : WrittenAt (first ++ signed_decimal change) i t e v
      both = written-append t i first (signed_decimal change) (omega arith) w (subst (λ z. WrittenAt (signed_decimal z) j u e v) q more)

      end_fits : e + 1 ≤ length t
      end_fits = omega (arith, both.0, length-append first (signed_decimal change), long)

      still : length v ≡ length t
      still = stored-length t i (first ++ signed_decimal change) both.1 both.0 (omega (arith, end_fits))

      pub end_inside : e < length v
      end_inside = omega (arith, end_fits, still)

      pub line-written : WrittenAt (line_of bus change) i t (e + 1) (set v e 10)
      line-written =
          subst (λ l. WrittenAt l i t (e + 1) (set v e 10)) (parts bus change)
          (written-append t i (first ++ signed_decimal change) (10 ∷ []) (omega arith) both (written_entry v e 10 end_inside))
