-- Laws of rows that grow at their ends.
use Rattle.std.specs.Prelude.{Bool, true, false, cond, List, [], ◌∷◌, ◌++◌, ◌≡◌, ℕ, ◌+◌, ◌≤◌, ◌<◌, eqb, leb, set}
use Rattle.std.proofs.Math.Path.{sym}
use Rattle.std.proofs.Common.{ap, ◌∙◌, add-zero, arith, length-set}
use Rattle.std.proofs.Math.ListN.{length, length-append}
use borrow.Author.Tests.{eqb-true, eqb-false, ne_eqb, leb-true, leb-false}
use Rattle.lists.specs.Lists.{indicator, at, Tabled}
use Rattle.lists.specs.Below.{sum_below, join_below}
use Rattle.lists.proofs.Tests.{split}
use Rattle.lists.proofs.Places.{at_set, at-append, at-behind}
use Rattle.lists.proofs.Loops.{tabled_more}
use Rattle.lists.proofs.SumsBelow.{sum_below-next-le}
use Rattle.lists.proofs.JoinBelow.{join_below_by}
use Rattle.table_spec.specs.Limits.{max_buses}
use Rattle.row_builder.specs.GrowingRows.{GrowingRows}

-- a number stands behind a row, if at all
pub length-grown : (t : Bool) (l : List ℕ) (x : ℕ) → length (cond t (l ++ (x ∷ [])) l) ≡ length l + indicator t
length-grown true l x = length-append l (x ∷ [])
length-grown false l x = omega arith

-- rows that have no number yet
pub growing_none : (n : ℕ) (sizes : ℕ → ℕ) {next all : List ℕ} → length next ≡ max_buses → length all ≡ sum_below n sizes
    → Tabled n (λ i. sum_below i sizes) next → GrowingRows n sizes (λ i. []) next all
growing_none n sizes p w t =
    record {
      size = p;
      wide = w;
      placed = λ i l. t i l ∙ sym (add-zero (sum_below i sizes));
      each = λ i j l k. absurd (omega arith);
    }

module _ {n : ℕ} {sizes : ℕ → ℕ} {rows : ℕ → List ℕ} {next all : List ℕ} (w : GrowingRows n sizes rows next all) where
  pub growing_same : (rows' : ℕ → List ℕ) → ((i : ℕ) → i < n → rows i ≡ rows' i) → GrowingRows n sizes rows' next all
  growing_same rows' e =
      record {
        size = w.size;
        wide = w.wide;
        placed = λ i l. w.placed i l ∙ ap (λ r. sum_below i sizes + length r) (e i l);
        each = λ i j l k. w.each i j l (omega (arith, ap length (e i l))) ∙ ap (λ r. at r j) (e i l);
      }

  -- a row that is not whole yet goes on within the list
  pub growing_fits : {bus : ℕ} → bus < n → length (rows bus) < sizes bus → at next bus < length all
  growing_fits {bus} b short = omega (arith, w.placed bus b, w.wide, sum_below-next-le sizes n b)

  -- the row of one bus grows: x is stored where it goes on, and the place moves on
  module _ (bus x : ℕ) (b : bus < n) (most : n ≤ max_buses) (short : length (rows bus) < sizes bus) (fit : (i : ℕ) → i < n → length (rows i) ≤ sizes i) where
    abbrev grown : ℕ → List ℕ
    grown i = cond (eqb bus i) (rows i ++ (x ∷ [])) (rows i)

    abbrev moved : List ℕ
    moved = set next bus (at next bus + 1)

    abbrev stored : List ℕ
    stored = set all (at next bus) x

    place_at : Tabled n (λ i. sum_below i sizes + length (grown i)) moved
    place_at i l =
        tabled_more (λ i. sum_below i sizes + length (rows i)) n next bus w.placed b (omega (arith, w.size)) i l
        ∙ omega (arith, length-grown (eqb bus i) (rows i) x)

    -- the row that grew, and another
    own-number : (j : ℕ) → j < length (rows bus ++ (x ∷ [])) → at stored (sum_below bus sizes + j) ≡ at (rows bus ++ (x ∷ [])) j
    unfolding at
    own-number j k =
        let g = w.placed bus b in
        let y = sum_below bus sizes + j in
        at_set all (at next bus) x y (growing_fits b short)
        ∙ split (eqb y (at next bus))
        (λ t. let e : j ≡ length (rows bus) + 0 = omega (arith, eqb-true y (at next bus) t) in rw (t, e) (sym (at-behind (rows bus) (x ∷ []) 0)))
        (λ t. let d : y ≡ at next bus → ⊥ = eqb-false y (at next bus) t in
        let m : j < length (rows bus) = omega (arith, d, length-append (rows bus) (x ∷ [])) in
        rw t (w.each bus j b m ∙ sym (at-append (rows bus) (x ∷ []) j m)))

    other_number : (i j : ℕ) → i < n → j < length (rows i) → (bus ≡ i → ⊥) → at stored (sum_below i sizes + j) ≡ at (rows i) j
    other_number i j l k d =
        let g = w.placed bus b in
        let y = sum_below i sizes + j in
        let apart : y ≡ at next bus → ⊥ = λ e. split (leb bus i)
        (λ t. let a = leb-true bus i t in omega (arith, sum_below-next-le sizes {i = bus} i (omega (arith, d))))
        (λ t. omega (arith, fit i l, sum_below-next-le sizes {i = i} bus (leb-false bus i t))) in
        at_set all (at next bus) x y (growing_fits b short) ∙ rw (ne_eqb y (at next bus) apart) (w.each i j l k)

    number_at : (i j : ℕ) → i < n → j < length (grown i) → at stored (sum_below i sizes + j) ≡ at (grown i) j
    number_at i j l k =
        split (eqb bus i)
        (λ t. let e : bus ≡ i = eqb-true bus i t in rw (t, ← e) (own-number j (rw (t, ← e) at k)))
        (λ t. rw t (other_number i j l (rw t at k) (eqb-false bus i t)))

    pub growing_next : {next' all' : List ℕ} → all' ≡ stored → next' ≡ moved → GrowingRows n sizes grown next' all'
    growing_next e f =
        rw (e, f)
        record { size = length-set next bus _ ∙ w.size; wide = length-set all _ x ∙ w.wide; placed = place_at; each = number_at }

  -- rows that are whole are the list
  pub growing_done : ((i : ℕ) → i < n → length (rows i) ≡ sizes i) → all ≡ join_below n rows
  growing_done whole = join_below_by sizes rows n whole w.wide w.each
