-- How a text and Sheet line come out.
use Rattle.std.specs.Prelude.{List, ◌++◌, ◌≡◌, refl, ℕ, ◌≤◌, ◌<◌, length, take, drop}
use Rattle.std.proofs.Common.{ap, ◌∙◌, le_refl, take_all}
use Rattle.refusals.specs.Outcomes.{Outcome, gives, refuses}
use Rattle.refusals.specs.Due.{Due}
use Rattle.refusals.proofs.Due.{both, accept, below, not-below}
use Rattle.share_spec.specs.Network.{Network}
use Rattle.sheet.specs.Sheet.{sheet_line}
use Rattle.sheet.specs.LineOutcomes.{text_outcome, written, text_after, line_causes, line_outcome, line_after}
use Rattle.sheet.specs.LineDue.{TextDue}

-- a text that is longer than x, or was copied to its front
module _ (text x : List ℕ) where
  pub too_short : length x < length text → TextDue text x (refuses 14) x
  too_short g = below refl refl g

  pub in_front : {r : ℕ} {y : List ℕ} → length text ≤ length x → r ≡ length text → y ≡ take (length text) text ++ drop (length text) x → TextDue text x (gives r) y
  in_front g a w = not-below refl refl g (accept a (w ∙ ap (λ l. l ++ drop (length text) x) (take_all (length text) text (le_refl _))))

-- what was answered and written for a text is due for any that is the same
pub due_text : {other : List ℕ} (text x : List ℕ) {o : Outcome ℕ} {y : List ℕ} → other ≡ text → (o ≡ text_outcome other (length x)) × (y ≡ text_after other x) → TextDue text x o y
due_text text x e w = let w = rw e at w in record { answered = w.0; after = w.1 }

-- what is due of Sheet line is answered and written
pub line_due : (N : Network) (i : ℕ) (x : List ℕ) {o : Outcome ℕ} {y : List ℕ} → Due (line_causes N i (length x)) (length (sheet_line N i)) (written (sheet_line N i) x) x o y
    → (o ≡ line_outcome N i (length x)) × (y ≡ line_after N i x)
line_due N i x d = both d
