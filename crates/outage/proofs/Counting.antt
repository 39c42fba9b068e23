-- How the ends of a line are found: lines are counted at their lower ends, bus by bus.
use Rattle.std.proofs.Common.{true, cond, ◌&&◌, List, [], ◌∷◌, ◌≡◌, sym, ap, ◌∙◌, ℕ, ◌+◌, ◌-◌, ◌≤◌, ◌<◌, arith, ltb-true, ltb-false, lt-ltb, ltb, length, drop, length-append, length-drop}
use Rattle.std.proofs.Math.Path.{fun_ext}
use Rattle.lists.specs.Lists.{has, at, Ascending}
use Rattle.lists.specs.Below.{join_below, map_below}
use Rattle.lists.proofs.Tests.{split, same_test, and_both, and_left, and_right}
use Rattle.lists.proofs.Counts.{in_has, has_in}
use Rattle.lists.proofs.Places.{at_drop, in_at, at_in}
use Rattle.lists.proofs.Loops.{join_below-next}
use Rattle.lists.proofs.JoinBelow.{length-map_below, map_below-at, at-join_below}
use Rattle.lists.proofs.ListBelow.{join_below_passing, list_below_by}
use Rattle.table_spec.specs.Limits.{max_buses}
use Rattle.table_spec.specs.Layout.{bus_count, row, lines}
use Rattle.table_spec.specs.Holds.{Holds}
use Rattle.table_spec.proofs.Rows.{row_valid}
use Rattle.table_spec.specs.Lines.{pair_number, pairs, lower_end, upper_end}
use Rattle.table_spec.proofs.LinePairs.{pairs-joined, neighbour-below, length_pairs}
use Rattle.outage.specs.StudyWork.{Above}

-- the numbers of the pairs whose lower bus is i
abbrev pairs_at : List ℕ → ℕ → List ℕ
pairs_at t i = join_below (bus_count t) (λ j. cond (ltb i j && has j (row t i)) (pair_number i j ∷ []) [])

-- and how many there are before those of bus i
abbrev pub lines_before : List ℕ → ℕ → ℕ
lines_before t i = length (join_below i (pairs_at t))

ascends_drop : (k : ℕ) (l : List ℕ) → Ascending l → Ascending (drop k l)
ascends_drop k l up i j b c = omega (arith, at_drop k l i, at_drop k l j, up (k + i) (k + j) (omega arith) (omega (arith, length-drop k l)))

pub counted_none : (t : List ℕ) (line : ℕ) → line + lines_before t 0 ≡ line
unfolding join_below
counted_none t line = omega arith

-- in the row r of bus i the buses above it begin at place k
module _ {t : List ℕ} (w : Holds t) {i k : ℕ} (b : i < bus_count t) {r : List ℕ} (er : r ≡ row t i) (above : Above r i k) where
  abbrev n : ℕ
  n = bus_count t

  below : (x : ℕ) → has x r ≡ true → x < n
  below x h = neighbour-below t w i x b (rw er at h)

  has_above : (x : ℕ) → has x (drop k r) ≡ (ltb x n && (ltb i x && has x (row t i)))
  has_above x =
      same_test _ _
      (λ h.
      let p = at_in x (drop k r) (has_in x (drop k r) h) in
      let l : k + p.0 < length r = omega (arith, p.1, length-drop k r, above.inside) in
      let e : at r (k + p.0) ≡ x = sym (at_drop k r p.0) ∙ p.2 in
      let m : has x r ≡ true = in_has x r (rw e at (in_at r (k + p.0) l)) in
      and_both _ _ (lt-ltb x n (below x m))
      (and_both _ _ (lt-ltb i x (omega (arith, e, above.behind (k + p.0) (omega arith) l))) (rw er at m)))
      (λ h.
      let z = and_right (ltb x n) (ltb i x && has x (row t i)) h in
      let g = ltb-true i x (and_left (ltb i x) (has x (row t i)) z) in
      let p = at_in x r (has_in x r (rw er (and_right (ltb i x) (has x (row t i)) z))) in
      let high : k ≤ p.0 = split (ltb p.0 k) (λ e. absurd (omega (arith, p.2, above.before p.0 (ltb-true p.0 k e)))) (ltb-false p.0 k) in
      let same : k + (p.0 - k) ≡ p.0 = omega arith in
      let e : at (drop k r) (p.0 - k) ≡ x = at_drop k r (p.0 - k) ∙ ap (at r) same ∙ p.2 in
      in_has x (drop k r) (rw e at (in_at (drop k r) (p.0 - k) (omega (arith, p.1, length-drop k r)))))

  pairs-listed : pairs_at t i ≡ map_below (length r - k) (λ j. pair_number i (at r (k + j)))
  unfolding map_below
  pairs-listed =
      join_below_passing (λ j. pair_number i j ∷ []) (λ j. ltb i j && has j (row t i)) n
      ∙ ap (λ l. join_below (length l) (λ j. pair_number i (at l j) ∷ []))
      (list_below_by n (λ j. ltb i j && has j (row t i)) (drop k r) (ascends_drop k r (rw er (row_valid w.shape i b).ascends)) has_above)
      ∙ ap (λ m. join_below m (λ j. pair_number i (at (drop k r) j) ∷ [])) (length-drop k r)
      ∙ ap (λ f. join_below (length r - k) (λ j. pair_number i (f j) ∷ [])) (fun_ext (at_drop k r))

  many : length (pairs_at t i) ≡ length r - k
  many = ap length pairs-listed ∙ length-map_below (length r - k) _

  -- so many lines are left to pass when bus i is reached
  module _ {rest line : ℕ} (e : rest + lines_before t i ≡ line) where
    -- the line is among those of bus i
    module _ (l : rest < length r - k) where
      pair_is : at (pairs n (row t)) line ≡ pair_number i (at r (k + rest))
      pair_is =
          let place : length (join_below i (pairs_at t)) + rest ≡ line = omega (arith, e) in
          ap (λ p. at p line) (pairs-joined n (row t) w.shape.complete.most (neighbour-below t w))
          ∙ ap (at (join_below n (pairs_at t))) (sym place)
          ∙ at-join_below (pairs_at t) n b rest (omega (arith, many))
          ∙ ap (λ p. at p rest) pairs-listed
          ∙ map_below-at (λ j. pair_number i (at r (k + j))) (length r - k) l

      upper-below : at r (k + rest) < max_buses
      upper-below =
          omega (arith, below (at r (k + rest)) (in_has _ r (in_at r (k + rest) (omega (arith, above.inside)))), w.shape.complete.most)

      pub lower_found : i ≡ lower_end t line
      lower_found = omega (arith, pair_is, upper-below)

      pub upper_found : {x : ℕ} → x ≡ at r (k + rest) → x ≡ upper_end t line
      upper_found q = omega (arith, pair_is, upper-below)

    -- or behind them
    module _ (l : length r - k ≤ rest) where
      pub counted_next : rest - (length r - k) + lines_before t (i + 1) ≡ line
      counted_next = omega (arith, many, e, ap length (join_below-next i (pairs_at t)), length-append (join_below i (pairs_at t)) (pairs_at t i))

-- behind the last bus there are no lines left
pub none_left : {t : List ℕ} (w : Holds t) (rest : ℕ) {i line : ℕ} → i ≤ bus_count t → bus_count t ≤ i → rest + lines_before t i ≡ line → line < lines t → ⊥
none_left {t} w rest {i} a b e l =
    let z : i ≡ bus_count t = omega arith in
    omega (
      arith,
      length_pairs t w,
      ap length (pairs-joined (bus_count t) (row t) w.shape.complete.most (neighbour-below t w)),
      ap (lines_before t) z,
    )
