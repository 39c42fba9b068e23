-- Numerators and lines, as code stores and writes them.
use Rattle.std.specs.Prelude.{List, ◌++◌, ◌≡◌, ℕ, ◌+◌, ◌≤◌, length}
use Rattle.std.proofs.Common.{sym, ap, subst, ◌∙◌, zero-le, add-one, arith}
use Rattle.lists.specs.Lists.{at, put, WrittenAt}
use Rattle.lists.specs.Below.{join_below, map_below}
use Rattle.lists.proofs.Places.{at-append}
use Rattle.lists.proofs.JoinBelow.{length-map_below, map_below-at, join_below-first}
use Rattle.lists.proofs.Writes.{put_front, length-put, written-append}
use Rattle.share_spec.specs.Network.{Network, denominator}
use Rattle.share_spec.specs.Formula.{numerator}
use Rattle.sheet.specs.Sheet.{sheet_line}
use Rattle.whole_sheet.specs.WholeSheet.{whole_sheet}
use Rattle.whole_sheet.specs.SheetRoom.{Scored}
use Rattle.whole_sheet.specs.SheetWriting.{bus_lines}

-- the numerators of a network were stored at the front of x
pub scored : (N : Network) (x : List ℕ) {L : ℕ} {numerators : List ℕ} → N.buses ≤ length x → L ≡ denominator N → numerators ≡ put x 0 (map_below N.buses (numerator N))
    → Scored N L numerators
scored N x {numerators = numerators} l e p =
    let first = length-map_below N.buses (numerator N) in
    record {
      over = e;
      long = omega (arith, ap length p, length-put x 0 (map_below N.buses (numerator N)) (omega (arith, first)));
      each = λ i b.
          ap (λ l. at l i) (p ∙ put_front x (map_below N.buses (numerator N)))
          ∙ at-append (map_below N.buses (numerator N)) _ i (omega (arith, first))
          ∙ map_below-at (numerator N) N.buses b;
    }

-- the heading was written at the front of x, which left u, and those of n buses behind it, from place a on; e is the place behind them
pub all-written : (N : Network) (x : List ℕ) {u y : List ℕ} {a e n : ℕ} → WrittenAt (sheet_line N 0) 0 x a u → n ≡ N.buses → WrittenAt (bus_lines N n) a u e y
    → WrittenAt (whole_sheet N) 0 x e y
all-written N x {y = y} {e = e} {n = n} first en rest =
    let all : sheet_line N 0 ++ bus_lines N n ≡ whole_sheet N =
    sym (join_below-first n (sheet_line N)) ∙ ap (λ k. join_below k (sheet_line N)) (sym (add-one n) ∙ ap (λ n. n + 1) en) in
    subst (λ text. WrittenAt text 0 x e y) all (written-append x 0 (sheet_line N 0) (bus_lines N n) zero-le first rest)
