-- Records in order: a pair that is named again stands next to its like, and every neighbour that a record gives a bus is above those that the
-- records before it gave, so that rows only grow at their ends.
use Rattle.std.specs.Prelude.{true, false, cond, ◌||◌, List, [], ◌∷◌, ◌++◌, ◌≡◌, ℕ, zero, suc, ◌+◌, ◌-◌, ◌*◌, ◌≤◌, ◌<◌, ltb, eqb, length}
use Rattle.std.proofs.Common.{true≢false, sym, ◌∙◌, arith}
use Rattle.std.proofs.Math.Bool.{or-false, and-false, and-true}
use Rattle.std.proofs.Math.Logic.{⊎_elim}
use borrow.Author.Tests.{ltb-true, ltb-false, eqb-true, eqb-false, ne_eqb, lt-ltb, le-ltb}
use Rattle.lists.specs.Below.{join_below}
use Rattle.lists.proofs.Tests.{split, never_both, or-none, eqb_self, eqb_comm}
use Rattle.lists.proofs.Loops.{last_or, any_below-none, any_below_fails}
use Rattle.lists.proofs.ListBelow.{list_below-same, list_below_more}
use Rattle.table_spec.specs.Limits.{max_buses, max_lines}
use Rattle.table_spec.specs.Lines.{pair_number}
use Rattle.file_spec.specs.FileBytes.{first_end, second_end}
use Rattle.file_spec.specs.RecordOrder.{turned, pair_below, falls, out_of_order}
use Rattle.file_spec.specs.Records.{joins, joined, neighbours, repeats}
use Rattle.file_spec.proofs.RecordPairs.{joined_at, joined_by, neighbours-next, pair_count-le, rows-length}
use Rattle.file_spec.specs.OrderedRecords.{OrderedRecords}

-- a record that has the ends of an earlier one names its pair again
pub repeats_by : (r : List ℕ) (i k : ℕ) → i < k → first_end r i ≡ first_end r k → second_end r i ≡ second_end r k → repeats r k ≡ true
unfolding repeats
repeats_by r i k l e f = joined_by k r (first_end r k) (second_end r k) i l e f

-- a pair is not below another just where its number is no less
pair_facts : (a b c d : ℕ) → d < max_buses → pair_below a b c d ≡ false → pair_number c d ≤ pair_number a b
unfolding pair_below
pair_facts a b c d l h =
    split (ltb a c) (λ e. absurd (true≢false (simp e at h)))
    (λ e. split (eqb a c)
    (λ q. split (ltb b d) (λ f. absurd (true≢false (simp (e, q, f) at h))) (λ f. omega (arith, eqb-true a c q, ltb-false b d f)))
    (λ q. let n : a ≡ c → ⊥ = eqb-false a c q in omega (arith, ltb-false a c e, n)))

pair_test : (a b c d : ℕ) → b < max_buses → pair_number c d ≤ pair_number a b → pair_below a b c d ≡ false
unfolding pair_below
pair_test a b c d l h =
    let first : ltb a c ≡ false = le-ltb a c (omega arith) in
    split (eqb a c) (λ e. let q = eqb-true a c e in simp (first, e, le-ltb b d (omega arith))) (λ e. simp (first, e))

-- records of buses within the limit, the lower first, are in order where their pairs' numbers never fall
pub order_test : (m : ℕ) (r : List ℕ) → ((k : ℕ) → k < m → (first_end r k < second_end r k) × (second_end r k < max_buses))
    → ((j k : ℕ) → j < k → k < m → pair_number (first_end r j) (second_end r j) ≤ pair_number (first_end r k) (second_end r k)) → out_of_order m r ≡ false
unfolding out_of_order turned falls
order_test m r lower grows =
    any_below_fails (λ k. turned r k || falls r k) m λ k l.
    let up = lower k l in
    rw (le-ltb (second_end r k) (first_end r k) (omega (arith, up.0)))
    (split (ltb 0 k)
    (λ e. let p = ltb-true 0 k e in
    rw e (pair_test _ _ _ _ up.1 (grows (k - 1) k (omega arith) l)))
    (λ e. rw e))

module _ {n m : ℕ} {r : List ℕ} (g : OrderedRecords n m r) where
  -- all rows together have two numbers for each line at most
  pub rows-le : length (join_below n (neighbours n m r)) ≤ 2 * max_lines
  rows-le = omega (arith, rows-length n m r g.ends, pair_count-le m r, g.lines)

  -- the lower bus stands first
  pub lower_first : (k : ℕ) → k < m → first_end r k < second_end r k
  unfolding out_of_order turned
  lower_first k l =
      let z = or-none (turned r k) (falls r k) (any_below-none (λ k. turned r k || falls r k) m g.order l) in
      let d : first_end r k ≡ second_end r k → ⊥ = (g.ends k l).2 in
      omega (arith, d, ltb-false (second_end r k) (first_end r k) z.0)

  -- the number of a record's pair, by which records ascend
  rank : ℕ → ℕ
  rank k = pair_number (first_end r k) (second_end r k)

  rank_next : (k : ℕ) → 0 < k → k < m → rank (k - 1) ≤ rank k
  unfolding out_of_order falls rank
  rank_next k l b =
      let z = or-none (turned r k) (falls r k) (any_below-none (λ k. turned r k || falls r k) m g.order b) in
      pair_facts _ _ _ _ (omega (arith, (g.ends (k - 1) (omega arith)).1, g.buses)) (rw (lt-ltb 0 k l) at z.1)

  rank_grows : (i k : ℕ) → i ≤ k → k < m → rank i ≤ rank k
  rank_grows i zero l b = let e : i ≡ 0 = omega arith in rw e (omega arith)
  rank_grows i (suc k) l b =
      let h : i < suc (suc k) = omega arith in
      let e : suc k - 1 ≡ k = omega arith in
      ⊎_elim (λ q. rw q (omega arith)) (λ j. omega (arith, rank_grows i k (omega arith) (omega arith), rw e at (rank_next (suc k) (omega arith) b))) (last_or h)

  -- and rise where no pair is named again
  pub rank_rises : (i k : ℕ) → i < k → k < m → repeats r k ≡ false → pair_number (first_end r i) (second_end r i) < pair_number (first_end r k) (second_end r k)
  unfolding rank
  rank_rises i k l b new =
      let h = rank_grows i k (omega arith) b in
      let x = (g.ends i (omega arith)).1 in
      let y = (g.ends k b).1 in
      let d : rank i ≡ rank k → ⊥ = λ e. never_both (repeats_by r i k l (omega (arith, e, x, y, g.buses)) (omega (arith, e, x, y, g.buses))) new in
      omega (arith, h, d)

  -- where record k names a pair again, an earlier one has the same ends, since the lower bus stands first in both
  earlier : (k : ℕ) → k < m → repeats r k ≡ true → (i : ℕ) × (i < k) × (first_end r i ≡ first_end r k) × (second_end r i ≡ second_end r k)
  unfolding repeats
  earlier k b h =
      let w = joined_at k r (first_end r k) (second_end r k) h in
      ⊎_elim
      (λ t. (w.0, w.1, t.0, t.1))
      (λ t. absurd (omega (arith, t.0, t.1, lower_first w.0 (omega (arith, w.1)), lower_first k b)))
      w.2

  -- and so has the one before it
  pub repeats_facts : (k : ℕ) → k < m → repeats r k ≡ true → (0 < k) × (first_end r (k - 1) ≡ first_end r k) × (second_end r (k - 1) ≡ second_end r k)
  unfolding rank
  repeats_facts k b h =
      let w = earlier k b h in
      let i = w.0 in
      let low = rank_grows i (k - 1) (omega (arith, w.1)) (omega arith) in
      let high = rank_grows (k - 1) k (omega arith) b in
      let y = (g.ends (k - 1) (omega arith)).1 in
      let z = (g.ends k b).1 in
      (omega (arith, w.1), omega (arith, low, high, w.2, w.3, y, z, g.buses), omega (arith, low, high, w.2, w.3, y, z, g.buses))

  -- record k, which names a new pair
  module _ (k : ℕ) (b : k < m) (new : repeats r k ≡ false) where
    abbrev a : ℕ
    a = first_end r k

    abbrev c : ℕ
    c = second_end r k

    -- the neighbours that earlier records give its first bus are below its second
    first_low : (j : ℕ) → joined k r a j ≡ true → j < c
    first_low j h =
        let w = joined_at k r a j h in
        let p = rank_rises w.0 k w.1 b new in
        let x = (g.ends w.0 (omega (arith, w.1))).1 in
        let y = (g.ends k b).1 in
        ⊎_elim (λ t. omega (arith, t.0, t.1, p)) (λ t. omega (arith, t.0, p, x, y, g.buses, lower_first k b)) w.2

    -- and those that they give its second are below its first
    second_low : (j : ℕ) → joined k r c j ≡ true → j < a
    second_low j h =
        let w = joined_at k r c j h in
        let p = rank_rises w.0 k w.1 b new in
        let x = (g.ends w.0 (omega (arith, w.1))).1 in
        let y = (g.ends k b).1 in
        ⊎_elim (λ t. absurd (omega (arith, t.0, p, x, y, g.buses, lower_first k b))) (λ t. omega (arith, t.0, t.1, p)) w.2

    apart : eqb c a ≡ false
    apart = ne_eqb c a (omega (arith, lower_first k b))

    -- so that each of the two goes behind the other's neighbours, and no other row changes
    first-row : neighbours n (k + 1) r a ≡ neighbours n k r a ++ (c ∷ [])
    unfolding neighbours joins
    first-row =
        neighbours-next n k r a
        ∙ list_below-same _ _ n (λ j l. rw (eqb_self a, apart, and-false (eqb a j), or-false (eqb c j)))
        ∙ list_below_more (joined k r a) c n (g.ends k b).1 (λ j l. first_low j)

    second_row : neighbours n (k + 1) r c ≡ neighbours n k r c ++ (a ∷ [])
    unfolding neighbours joins
    second_row =
        neighbours-next n k r c
        ∙ list_below-same _ _ n (λ j l. rw (eqb_comm a c, apart, eqb_self c, and-true (eqb a j)))
        ∙ list_below_more (joined k r c) a n (g.ends k b).0 (λ j l. second_low j)

    other_row : (i : ℕ) → eqb a i ≡ false → eqb c i ≡ false → neighbours n (k + 1) r i ≡ neighbours n k r i
    unfolding neighbours joins
    other_row i e f = neighbours-next n k r i ∙ list_below-same _ _ n (λ j l. rw (e, f, and-false (eqb a j), or-false (joined k r i j)))

    pub rows_grow : (i : ℕ) → let one = cond (eqb a i) (neighbours n k r i ++ (c ∷ [])) (neighbours n k r i) in
        cond (eqb c i) (one ++ (a ∷ [])) one ≡ neighbours n (k + 1) r i
    rows_grow i =
        split (eqb a i)
        (λ e. let q : a ≡ i = eqb-true a i e in rw (← q) (rw (eqb_self a, apart) (sym first-row)))
        (λ e. split (eqb c i)
        (λ f. let q : c ≡ i = eqb-true c i f in rw (e, f) (rw (← q) (sym second_row)))
        (λ f. rw (e, f) (sym (other_row i e f))))
