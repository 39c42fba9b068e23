-- No line of a network's sheet has more bytes than `longest_line`.
use Rattle.std.specs.Prelude.{List, [], ◌∷◌, ◌≡◌, refl, ℕ, zero, suc, ◌+◌, ◌*◌, ◌/◌, ◌≤◌, ◌<◌, length}
use Rattle.std.proofs.Common.{le_trans, mul-le-mul, mul-le-mul_right, div-le_self, arith, length-append}
use Rattle.lists.specs.Lists.{at}
use Rattle.lists.proofs.Loops.{sum_below-next}
use Rattle.lists.proofs.SumsBelow.{sum_below_grows}
use Rattle.text.specs.Text.{decimal, filled}
use Rattle.text.proofs.DecimalLaws.{decimal-le}
use Rattle.table_spec.specs.Limits.{max_buses, max_weight}
use Rattle.table_spec.specs.Holds.{Holds}
use Rattle.table_spec.proofs.LineCount.{lines-le}
use Rattle.table_spec.proofs.Rows.{degree-le}
use Rattle.fraction.specs.Divisors.{gcd_of}
use Rattle.share_spec.specs.Network.{Network, denominator}
use Rattle.share_spec.specs.Formula.{numerator}
use Rattle.share_spec.specs.TableNetwork.{max_denominator}
use Rattle.share_spec.proofs.FairFormula.{whole}
use Rattle.share_spec.proofs.TableGame.{own_over}
use Rattle.two_way.specs.TwoWay.{network_of}
use Rattle.two_way.proofs.TwoWaySound.{total_weight-le, sound}
use Rattle.sheet.specs.Sheet.{heading_form, bus_form, sheet_line}
use Rattle.sheet.specs.LineRoom.{longest_line, Short}

-- the bytes of a line: those of its template, and the digits of its numbers
heading_length : (n m L : ℕ) → length (filled heading_form (n ∷ m ∷ L ∷ [])) ≡ 20 + length (decimal n) + length (decimal m) + length (decimal L)
unfolding filled at
heading_length n m L = simp length-append (omega arith)

bus_length : (v k d x p q : ℕ) → length (filled bus_form (v ∷ k ∷ d ∷ x ∷ p ∷ q ∷ []))
    ≡ 6 + length (decimal v) + length (decimal k) + length (decimal d) + length (decimal x) + length (decimal p) + length (decimal q)
unfolding filled at
bus_length v k d x p q = simp length-append (omega arith)

module _ {N : Network} (w : Short N) where
  -- a share is no larger than all of them, which are L times the total weight
  numerator-le : (v : ℕ) → v < N.buses → numerator N v ≤ max_denominator * (max_buses * max_weight)
  numerator-le v b =
      let next : v + 1 ≤ N.buses = omega arith in
      le_trans (omega (arith, sum_below_grows (numerator N) N.buses next, sum_below-next v (numerator N), whole w.sound)) (mul-le-mul w.over w.total_weight)

  bus_fits : (v : ℕ) → v < N.buses → length (sheet_line N (suc v)) ≤ longest_line
  bus_fits v b =
      let x = numerator N v in
      let L = denominator N in
      let g = gcd_of x L in
      let most = numerator-le v b in
      let bounded = w.over in
      omega (
        arith,
        bus_length v (N.need_column v) (N.degree_column v) x (x / g) (L / g),
        decimal-le 2 v (omega (arith, w.buses)),
        decimal-le 1 (N.need_column v) (omega (arith, w.need_column v b)),
        decimal-le 1 (N.degree_column v) (omega (arith, w.degree_column v b)),
        decimal-le 15 x (omega (arith, most)),
        decimal-le 15 (x / g) (omega (arith, div-le_self x g, most)),
        decimal-le 9 (L / g) (omega (arith, div-le_self L g, bounded)),
      )

  -- EVERY LINE FITS, the heading too
  pub line_fits : (i : ℕ) → i ≤ N.buses → length (sheet_line N i) ≤ longest_line
  line_fits zero b =
      omega (
        arith,
        heading_length N.buses N.lines (denominator N),
        decimal-le 2 N.buses (omega (arith, w.buses)),
        decimal-le 4 N.lines w.lines,
        decimal-le 9 (denominator N) (omega (arith, w.over)),
      )
  line_fits (suc v) b = bus_fits v (omega arith)

-- the network of a table is such a one
pub held_short : {t : List ℕ} → Holds t → Short (network_of t)
held_short {t} w = record {
  sound = sound w.shape w.mirrored;
  buses = w.shape.complete.most;
  lines = omega (arith, lines-le t w);
  need_column = w.limited;
  degree_column = degree-le w.shape;
  over = (own_over w.shape refl).bounded;
  total_weight = le_trans (total_weight-le w.shape) (mul-le-mul_right max_weight w.shape.complete.most);
}
