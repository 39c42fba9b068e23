-- The mirror test. When row i is reached, the cursor of each row of a mirrored table counts the row's numbers below i, and so stands at i if
-- the row has i: rows ascend.
use mathlib.Core.Bool.{true, false}
use mathlib.Core.List.{List}
use mathlib.Core.Path.{◌≡◌, refl, sym, ap, ap₂, subst, ◌∙◌}
use Prim.Native.Nat.{ℕ, ◌+◌, ◌≤◌, ◌<◌}
use native.Mathlib.Nat.{add-zero}
use native.Mathlib.Omega.{arith}
use borrow.Author.Tests.{ltb-true, eqb-true, le-ltb, lt-ltb, eq-eqb}
use lib.Dec.{ltb, eqb}
use lib.ListN.{length, take, set, replicate, length-set, length-take}
use lib.Seq.{take_all}
use Rattle.lists.specs.Lists.{indicator, count_by, count, ◌∈◌, has, at}
use Rattle.lists.specs.Below.{all_below}
use Rattle.lists.proofs.Tests.{split, same_test, never_both, and_both, and_left, and_right}
use Rattle.lists.proofs.Sums.{sum_by_cong, sum_by-zero}
use Rattle.lists.proofs.Counts.{in_has, has_in, has-none}
use Rattle.lists.proofs.Places.{at-zeros, at_set, at_take, in_at, at_in, count_none, count_under_next, ascending_place}
use Rattle.lists.proofs.Loops.{sum_by_take_next, all_below-at, all_below_by}
use Rattle.table_spec.specs.Layout.{row_at}
use Rattle.table_spec.specs.Holds.{ValidRow, SoundRows, Mirrored}
use Rattle.table_check.specs.Cursors.{is_at, Matched}
use Rattle.table_spec.proofs.Rows.{valid_once}

-- ---- one row: the cursors of the rows that its first k entries name have moved on by one, from x to y

pub record Moved (r : List ℕ) (k : ℕ) (x y : List ℕ) : Type 0 where
  pub long : length y ≡ length x
  pub each : (j : ℕ) → at y j ≡ at x j + count j (take k r)

pub none_moved : (r x : List ℕ) → Moved r 0 x x
none_moved r x = record { long = refl; each = λ j. sym (add-zero (at x j)) }

-- the cursor c of entry k moves on
module _ {r x y : List ℕ} {k : ℕ} (m : Moved r k x y) (b : k < length r) where
  pub one-moved : {c : ℕ} → c ≡ at y (at r k) → at r k < length x → Moved r (k + 1) x (set y (at r k) (c + 1))
  one-moved {c} q g =
      let j = at r k in
      record {
        long = length-set y j (c + 1) ∙ m.long;
        each = λ a.
            at_set y j (c + 1) a (omega (arith, m.long))
            ∙ split (eqb a j)
            (λ t. rw t (let z : a ≡ j = eqb-true a j t in
            omega (arith, q, ap (at y) z, m.each a, sum_by_take_next (λ v. indicator (eqb a v)) r k b, ap indicator t)))
            (λ t. rw t (omega (arith, m.each a, sum_by_take_next (λ v. indicator (eqb a v)) r k b, ap indicator t)));
      }

  -- in a row that ascends it is the first to ask there
  pub unmoved : {n i : ℕ} → ValidRow n i r → at y (at r k) ≡ at x (at r k)
  unmoved w = m.each (at r k) ∙ ap (λ v. at x (at r k) + v) fresh ∙ add-zero (at x (at r k))
    where
      fresh : count (at r k) (take k r) ≡ 0
      fresh =
          count_none (at r k) (take k r)
          λ q l z. let g : q < k = omega (arith, length-take k r) in omega (arith, w.ascends q k g b, at_take k r q g)

pub all_moved : {r x y : List ℕ} {k : ℕ} → Moved r k x y → length r ≤ k → (j : ℕ) → at y j ≡ at x j + count j r
all_moved {r} {x} {y} {k} m g j = m.each j ∙ ap (λ q. at x j + count j q) (take_all k r g)

pub is_there : (r : List ℕ) (c i : ℕ) → is_at r c i ≡ true → (c < length r) × (at r c ≡ i)
unfolding is_at
is_there r c i w =
    (ltb-true c (length r) (and_left (ltb c (length r)) _ w), eqb-true (at r c) i (and_right (ltb c (length r)) _ w))

-- ---- all rows

-- the cursors before row i
abbrev pub Marks : ℕ → List ℕ → List ℕ → ℕ → List ℕ → Type 0
Marks n s l i x = (j : ℕ) → j < n → at x j ≡ count_by (λ y. ltb y i) (row_at s l j)

pub none_marked : (n : ℕ) (s l : List ℕ) (m : ℕ) → Marks n s l 0 (replicate m 0)
none_marked n s l m j b =
    at-zeros m j ∙ sym (sum_by_cong (λ y. ap indicator (le-ltb y 0 (omega arith))) (row_at s l j) ∙ sum_by-zero (row_at s l j))

-- a row that matched: each row that it names has i
pub answered : (s l : List ℕ) (i : ℕ) (x y : List ℕ) → Matched s l i (row_at s l i) x true y → (j : ℕ) → j ∈ row_at s l i → i ∈ row_at s l j
answered s l i x y m j h =
    let k = at_in j (row_at s l i) h in
    let a = all_below-at _ (length (row_at s l i)) (sym m.answer) k.1 in
    let f = is_there (row_at s l j) (at x j) i (subst (λ v. is_at (row_at s l v) (at x v) i ≡ true) k.2 a) in
    subst (λ v. v ∈ row_at s l j) f.1 (in_at (row_at s l j) (at x j) f.0)

-- all rows matched
pub all-answered : (n : ℕ) (s l : List ℕ) → ((i : ℕ) → i < n → (j : ℕ) → j ∈ row_at s l i → i ∈ row_at s l j) → Mirrored n s l
all-answered n s l f i j b c =
    same_test (has j (row_at s l i)) (has i (row_at s l j))
    (λ e. in_has i (row_at s l j) (f i b j (has_in j (row_at s l i) e)))
    (λ e. in_has j (row_at s l i) (f j c i (has_in i (row_at s l j) e)))

-- row i of a mirrored table, with the cursors as they must be before it
module _ (n : ℕ) (s l : List ℕ) (w : SoundRows n s l) (sy : Mirrored n s l) (i : ℕ) (b : i < n) (x : List ℕ) (ms : Marks n s l i x) where
  -- in a mirrored table row i matches
  matches : all_below (length (row_at s l i)) (λ k. is_at (row_at s l (at (row_at s l i) k)) (at x (at (row_at s l i) k)) i) ≡ true
  unfolding is_at
  matches =
      all_below_by _ (length (row_at s l i)) λ k g.
      let j : ℕ = at (row_at s l i) k in
      let c : j < n = (w.valid i b).below k g in
      let h = has_in i (row_at s l j) (sym (sy i j b c) ∙ in_has j (row_at s l i) (in_at (row_at s l i) k g)) in
      let p = ascending_place i (row_at s l j) (w.valid j c).ascends h in
      rw (ms j c) (and_both _ _ (lt-ltb _ _ p.0) (eq-eqb _ _ p.1))

  pub not_refused : (y : List ℕ) → Matched s l i (row_at s l i) x false y → ⊥
  not_refused y m = never_both matches (sym m.answer)

  counted : (j : ℕ) → j < n → count j (row_at s l i) ≡ count i (row_at s l j)
  counted j c =
      let p = valid_once (w.valid i b) j in
      let q = valid_once (w.valid j c) i in
      split (has j (row_at s l i))
      (λ e. omega (arith, p, q, has_in j (row_at s l i) e, has_in i (row_at s l j) (sym (sy i j b c) ∙ e)))
      (λ e. has-none j (row_at s l i) e ∙ sym (has-none i (row_at s l j) (sym (sy i j b c) ∙ e)))

  -- and its cursors are right for the next row
  pub marked : (y : List ℕ) → Matched s l i (row_at s l i) x true y → Marks n s l (i + 1) y
  marked y m j c =
      m.moved refl j ∙ ap₂ ◌+◌ (ms j c) (counted j c) ∙ sym (count_under_next i (row_at s l j))
