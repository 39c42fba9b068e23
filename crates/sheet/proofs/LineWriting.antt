-- Lines, as code reads their numbers and writes them.
use Rattle.std.specs.Prelude.{List, [], ◌∷◌, ◌≡◌, ℕ, ◌+◌, ◌≤◌, length}
use Rattle.std.proofs.Common.{sym, ap, ◌∙◌, arith}
use Rattle.lists.specs.Lists.{put, WrittenAt}
use Rattle.fraction.specs.Cancel.{cancelled}
use Rattle.share_spec.specs.Network.{Network, denominator}
use Rattle.share_spec.specs.Formula.{numerator}
use Rattle.sheet.specs.Sheet.{heading_numbers, bus_numbers, sheet_line}
use Rattle.sheet.specs.LineRoom.{longest_line, Short}
use Rattle.sheet.proofs.LineFits.{line_fits}

-- the numbers of the heading, and of a bus's line
pub heading_read : (N : Network) {n m L : ℕ} → n ≡ N.buses → m ≡ N.lines → L ≡ denominator N → n ∷ m ∷ L ∷ [] ≡ heading_numbers N
heading_read N en em eL = rw (en, em, eL)

pub bus_read : (N : Network) {v k d x L p q : ℕ} → k ≡ N.need_column v → d ≡ N.degree_column v → x ≡ numerator N v → L ≡ denominator N → (p, q) ≡ cancelled x L
    → v ∷ k ∷ d ∷ x ∷ p ∷ q ∷ [] ≡ bus_numbers N v
bus_read N ek ed ex eL s = rw (ek, ed, ap (λ s. s.0) s, ap (λ s. s.1) s, ex, eL)

-- a text that is line i of the sheet has room behind place a, was written into x there, and r is the place behind it
module _ {N : Network} (w : Short N) {i : ℕ} (b : i ≤ N.buses) {text : List ℕ} (e : text ≡ sheet_line N i) where
  bounded : length text ≤ longest_line
  bounded = omega (arith, ap length e, line_fits w i b)

  pub line_room : (a : ℕ) {n : ℕ} → a + longest_line ≤ n → a + length text ≤ n
  line_room a h = omega (arith, bounded)

  pub line-written : (x : List ℕ) (a : ℕ) {y : List ℕ} {r : ℕ} → WrittenAt text a x r y → WrittenAt (sheet_line N i) a x r y × (r ≤ a + longest_line)
  line-written x a p = ((p.0 ∙ ap (λ l. a + length l) e, p.1 ∙ ap (put x a) e), omega (arith, p.0, bounded))

-- what was written at the front is line i, if it is line j and j is i
pub line-front : (N : Network) (x : List ℕ) {i j r : ℕ} {y : List ℕ} → i ≡ j → WrittenAt (sheet_line N j) 0 x r y × (r ≤ 0 + longest_line)
    → WrittenAt (sheet_line N i) 0 x r y × (r ≤ longest_line)
line-front N x e p =
    let e = ap (sheet_line N) (sym e) in
    ((p.0.0 ∙ ap (λ l. 0 + length l) e, p.0.1 ∙ ap (put x 0) e), omega (arith, p.1))
