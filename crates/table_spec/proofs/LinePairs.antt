-- Laws of the lines of a network: just its pairs of neighbours, ascending, as many as it has lines; and what is joined over all of them.
use Rattle.std.specs.Prelude.{Bool, ◌&&◌, ◌≡◌}
use Rattle.std.proofs.Math.Bool.{true, cond, and-false}
use mathlib.Core.List.{List, [], ◌∷◌}
use Rattle.std.proofs.Math.Path.{sym, ap, ap₂}
use Rattle.std.proofs.Common.{◌∙◌}
use Prim.Native.Nat.{ℕ, ◌+◌, ◌*◌, ◌/◌, ◌%◌, ◌≤◌, ◌<◌}
use native.Mathlib.Omega.{arith}
use borrow.Author.Tests.{ltb-true, lt-ltb}
use Rattle.std.proofs.Math.Dec.{ltb}
use Rattle.std.proofs.Math.ListN.{length}
use Rattle.lists.specs.Lists.{indicator, has, at}
use Rattle.lists.specs.Below.{sum_below, count_below, join_below, map_below}
use Rattle.lists.proofs.Tests.{split, fails, and_both, and_left, and_right}
use Rattle.lists.proofs.Counts.{has_in}
use Rattle.lists.proofs.Places.{at_in}
use Rattle.lists.proofs.SumsBelow.{sum_below-same, sum_below_const, sum_below_swap, count_below_cut}
use Rattle.lists.proofs.JoinBelow.{length-join_below, join_below-same, join_below-times, join_below_more, map_below-same, map_below-entries}
use Rattle.lists.proofs.ListBelow.{has-list_below, list_below_in, list_below_ascends, join_below_passing}
use Rattle.table_spec.specs.Limits.{max_buses}
use Rattle.table_spec.specs.Layout.{bus_count, row, lines}
use Rattle.table_spec.specs.Holds.{Holds}
use Rattle.table_spec.proofs.Rows.{valid_below, row_valid}
use Rattle.table_spec.specs.Lines.{pair_number, is_pair, pairs, lower_bus, upper_bus}

module _ (n : ℕ) (rows : ℕ → List ℕ) where
  -- each is a pair of neighbours, the lower bus first
  pub pairs_in : (k : ℕ) → k < length (pairs n rows) → (lower_bus n rows k < n) × (lower_bus n rows k < upper_bus n rows k) × (has (upper_bus n rows k) (rows (lower_bus n rows k)) ≡ true)
  unfolding pairs
  pairs_in k h =
      let w = list_below_in (n * max_buses) (is_pair rows) k h in
      let a = lower_bus n rows k in
      let b = upper_bus n rows k in
      (omega (arith, w.0), ltb-true a b (and_left (ltb a b) (has b (rows a)) w.1), and_right (ltb a b) (has b (rows a)) w.1)

  -- and they ascend
  pub pairs_ascend : (j k : ℕ) → j < k → k < length (pairs n rows) → pair_number (lower_bus n rows j) (upper_bus n rows j) < pair_number (lower_bus n rows k) (upper_bus n rows k)
  unfolding pairs
  pairs_ascend j k l h = omega (arith, list_below_ascends (n * max_buses) (is_pair rows) j k l h)

  -- where there are no more buses than may be, and rows have no other numbers
  module _ (few : n ≤ max_buses) (low : (i j : ℕ) → i < n → has j (rows i) ≡ true → j < n) where
    -- each such pair is among them
    pub in_pairs : (i j : ℕ) → i < n → i < j → has j (rows i) ≡ true → (k : ℕ) × (k < length (pairs n rows)) × (lower_bus n rows k ≡ i) × (upper_bus n rows k ≡ j)
    unfolding pairs
    in_pairs i j b l h =
        let c = pair_number i j in
        let first : c / max_buses ≡ i = omega (arith, low i j b h) in
        let second : c % max_buses ≡ j = omega (arith, low i j b h) in
        let passes : is_pair rows c ≡ true = ap₂ (λ a b. ltb a b && has b (rows a)) first second ∙ and_both (ltb i j) (has j (rows i)) (lt-ltb i j l) h in
        let w = at_in c (pairs n rows) (has_in c (pairs n rows) (has-list_below (is_pair rows) (omega (arith, low i j b h)) ∙ passes)) in
        (w.0, w.1, omega (arith, w.2, first), omega (arith, w.2, second))

    -- what is joined over all pairs, bus by bus, is joined over their list
    module _ (g : ℕ → ℕ → List ℕ) where
      at-number : ℕ → List ℕ
      at-number c = cond (is_pair rows c) (g (c / max_buses) (c % max_buses)) []

      at_bus : (i : ℕ) → i < n → join_below n (λ j. cond (ltb i j && has j (rows i)) (g i j) []) ≡ join_below max_buses (λ j. at-number (i * max_buses + j))
      unfolding at-number
      at_bus i b =
          sym (join_below_more _ n max_buses few (λ j h. rw (fails (has j (rows i)) (λ e. omega (arith, low i j b e)), and-false (ltb i j))))
          ∙ join_below-same _ _ max_buses λ j h.
          let first : i ≡ (i * max_buses + j) / max_buses = omega arith in
          let second : j ≡ (i * max_buses + j) % max_buses = omega arith in
          ap₂ (λ a b. cond (ltb a b && has b (rows a)) (g a b) []) first second

      pub joined-pairs : join_below n (λ i. join_below n (λ j. cond (ltb i j && has j (rows i)) (g i j) [])) ≡ join_below (length (pairs n rows)) (λ k. g (lower_bus n rows k) (upper_bus n rows k))
      unfolding pairs at-number
      joined-pairs =
          join_below-same _ _ n at_bus ∙ sym (join_below-times n max_buses at-number) ∙ join_below_passing (λ c. g (c / max_buses) (c % max_buses)) (is_pair rows) (n * max_buses)

    -- so is the list itself: the pairs of each bus in turn
    pub pairs-joined : pairs n rows ≡ join_below n (λ i. join_below n (λ j. cond (ltb i j && has j (rows i)) (pair_number i j ∷ []) []))
    unfolding map_below
    pairs-joined =
        let l = pairs n rows in
        sym
        (joined-pairs (λ i j. pair_number i j ∷ [])
        ∙ map_below-same (λ k. pair_number (lower_bus n rows k) (upper_bus n rows k)) (at l) (length l) (λ k b. omega arith)
        ∙ map_below-entries l)

-- ---- a network

module _ (t : List ℕ) (w : Holds t) where
  abbrev n : ℕ
  n = bus_count t

  pub mirror : (i j : ℕ) → i < n → j < n → has j (row t i) ≡ has i (row t j)
  unfolding row
  mirror = w.mirrored

  pub neighbour-below : (i j : ℕ) → i < n → has j (row t i) ≡ true → j < n
  neighbour-below i j b h = valid_below (row_valid w.shape i b) j (has_in j (row t i) h)

  -- its pairs are as many as its lines, which count each at its higher bus
  counted : sum_below n (λ i. count_below n (λ j. ltb i j && has j (row t i))) ≡ lines t
  unfolding lines
  counted =
      sum_below_swap (λ i j. indicator (ltb i j && has j (row t i))) n n
      ∙ sum_below-same _ _ n (λ j b. sum_below-same _ _ n (λ i c. ap (λ h. indicator (ltb i j && h)) (mirror i j c b)) ∙ count_below_cut (λ i. has i (row t j)) n (omega arith))

  -- a mark for each
  mark : Bool → List ℕ
  mark b = cond b (0 ∷ []) []

  length_mark : (b : Bool) → length (mark b) ≡ indicator b
  unfolding mark
  length_mark b = split b (λ e. rw e) (λ e. rw e)

  pub length_pairs : length (pairs n (row t)) ≡ lines t
  unfolding mark
  length_pairs =
      let marked : ℕ → List ℕ = λ i. join_below n (λ j. mark (ltb i j && has j (row t i))) in
      omega (
        arith,
        ap length (joined-pairs n (row t) w.shape.complete.most neighbour-below (λ i j. mark true)),
        length-join_below n marked,
        sum_below-same (λ i. length (marked i)) _ n (λ i b. length-join_below n (λ j. mark (ltb i j && has j (row t i))) ∙ sum_below-same _ _ n (λ j c. length_mark (ltb i j && has j (row t i)))),
        counted,
        length-join_below (length (pairs n (row t))) (λ k. mark true),
        sum_below_const 1 (length (pairs n (row t))),
      )
