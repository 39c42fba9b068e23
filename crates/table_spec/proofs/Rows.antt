-- Laws of rows and of the sections of a table.
use Rattle.std.specs.Prelude.{List, ◌≡◌, ℕ, ◌+◌, ◌≤◌, ◌<◌, length}
use Rattle.std.proofs.Math.Path.{sym, ap}
use Rattle.std.proofs.Common.{ap₂, ◌∙◌, le_refl, le_trans, add-one}
use Rattle.std.proofs.Math.Decide.{le_ind}
use native.Mathlib.Omega.{arith}
use Rattle.lists.specs.Lists.{◌∈◌, without, at, part, Once}
use Rattle.lists.proofs.Places.{length_part, at_part, part-part, ascending_once, at_in, in_at}
use Rattle.lists.proofs.Without.{of_without, ascends_without}
use Rattle.table_spec.specs.Limits.{max_degree}
use Rattle.table_spec.specs.Layout.{row_at, row_size, bus_count, needs, weights, starts, last, entries, neighbour_numbers, weights_from, starts_from, starts_at, row, row_start, degree}
use Rattle.table_spec.specs.Holds.{Complete, Spans, ValidRow, Scorable}

-- a row between the starts a and e, as code reads it
pub row_read : (s l : List ℕ) (i : ℕ) {a e : ℕ} → a ≡ at s i → e ≡ at s (i + 1) → part a e l ≡ row_at s l i
unfolding row_at
row_read s l i p q = ap₂ (λ a e. part a e l) p q

-- ---- rows that lie among the numbers l

module _ (n : ℕ) (s l : List ℕ) (w : Spans n s l) where
  rises : (i j : ℕ) → i ≤ j → j ≤ n → at s i ≤ at s j
  rises i j =
      le_ind (λ m. m ≤ n → at s i ≤ at s m) (λ _. le_refl _)
      (λ m g f l. le_trans (f (omega arith)) (rw add-one at (w.steps m l).0)) j

  -- a row lies among the numbers
  pub row_lies : (i : ℕ) → i < n → (i + 1 < length s) × (at s i ≤ at s (i + 1)) × (at s (i + 1) ≤ length l)
  row_lies i b = (omega (arith, w.long), (w.steps i b).0, le_trans (rises (i + 1) n (omega arith) (le_refl n)) w.ends)

  pub row-length : (i : ℕ) → i < n → length (row_at s l i) ≡ row_size s i
  unfolding row_at
  row-length i b = length_part (at s i) (at s (i + 1)) l (row_lies i b).2

  pub row-le : (i : ℕ) → i < n → length (row_at s l i) ≤ max_degree
  row-le i b = omega (arith, row-length i b, (w.steps i b).1)

-- the numbers of a valid row: each once, below n, not i
module _ {n i : ℕ} {r : List ℕ} (w : ValidRow n i r) where
  pub valid_once : Once r
  valid_once = ascending_once r w.ascends

  pub valid_below : (x : ℕ) → x ∈ r → x < n
  valid_below x m = let k = at_in x r m in omega (arith, w.below k.0 k.1, k.2)

  pub valid_others : i ∈ r → ⊥
  valid_others m = let k = at_in i r m in w.others k.0 k.1 k.2

-- a valid row without some of its numbers is one
pub valid_without : {n i : ℕ} {r : List ℕ} (s : List ℕ) → ValidRow n i r → ValidRow n i (without s r)
valid_without {n} {i} {r} s w = record {
  below = λ k b. valid_below w _ (of_without s r _ (in_at (without s r) k b));
  others = λ k b e. valid_others w (of_without s r i (rw e at (in_at (without s r) k b)));
  ascends = ascends_without s r w.ascends;
}

-- ---- the sections of a table, as code reads them: the bus count into n, the last row start into x

pub needs-read : (t : List ℕ) {n : ℕ} → n ≡ bus_count t → part 1 (1 + n) t ≡ needs t
unfolding needs
needs-read t e = ap (λ n. part 1 (1 + n) t) e

pub weights-read : (t : List ℕ) {n : ℕ} → n ≡ bus_count t → part (weights_from n) (starts_from n) t ≡ weights t
unfolding weights
weights-read t e = ap (λ n. part (weights_from n) (starts_from n) t) e

pub starts-read : (from : ℕ) (t : List ℕ) {n : ℕ} → n ≡ bus_count t → part from (from + n + 1) t ≡ starts from t
unfolding starts
starts-read from t e = ap (λ n. part from (from + n + 1) t) e

pub last-read : (from : ℕ) (t : List ℕ) {n x : ℕ} → n ≡ bus_count t → x ≡ at t (from + n) → x ≡ last from t
last-read from t e p = p ∙ ap (λ n. at t (from + n)) e

pub numbers-read : (from : ℕ) (t : List ℕ) {n x : ℕ} → n ≡ bus_count t → x ≡ at t (from + n) → part (from + n + 1) (from + n + 1 + x) t ≡ neighbour_numbers from t
unfolding neighbour_numbers
numbers-read from t e p = ap₂ (λ n x. part (from + n + 1) (from + n + 1 + x) t) e (last-read from t e p)

-- and a row of a network's table, the row starts being s and the neighbour numbers l
pub row_in : (t : List ℕ) (i : ℕ) {from : ℕ} {s l : List ℕ} → from ≡ starts_at t → s ≡ starts from t → l ≡ neighbour_numbers from t → row_at s l i ≡ row t i
unfolding row
row_in t i eh es el = rw (es, el, eh)

-- and where it begins, its row start being x
pub start_read : (t : List ℕ) (i : ℕ) {from n x : ℕ} {s : List ℕ} → from ≡ starts_at t → n ≡ bus_count t → s ≡ starts from t → x ≡ at s i → from + n + 1 + x ≡ row_start t i
start_read t i eh en es ex = rw (ex, es, eh, en)

-- ---- and how long they are

pub length-needs : (t : List ℕ) → Complete (starts_at t) t → length (needs t) ≡ bus_count t
unfolding needs
length-needs t w = let a = length_part 1 (1 + bus_count t) t (omega (arith, w.whole)) in omega arith

pub length-weights : (t : List ℕ) → Complete (starts_at t) t → length (weights t) ≡ bus_count t
unfolding weights
length-weights t w = let a = length_part (weights_from (bus_count t)) (starts_at t) t (omega (arith, w.whole)) in omega arith

module _ (from : ℕ) (t : List ℕ) (w : Complete from t) where
  pub length-starts : length (starts from t) ≡ bus_count t + 1
  unfolding starts
  length-starts = let a = length_part from (from + bus_count t + 1) t (omega (arith, w.whole)) in omega arith

  pub length-numbers : length (neighbour_numbers from t) ≡ last from t
  unfolding neighbour_numbers
  length-numbers = let a = length_part (from + bus_count t + 1) (entries from t) t w.whole in omega arith

  pub last_start : at (starts from t) (bus_count t) ≡ last from t
  unfolding starts
  last_start = at_part from (from + bus_count t + 1) t (bus_count t) (omega arith)

  pub room : (bus_count t < length (starts from t)) × (at (starts from t) (bus_count t) ≤ length (neighbour_numbers from t))
  room = (omega (arith, length-starts), omega (arith, last_start, length-numbers))

-- ---- the rows of a table that can be scored: they are valid, and short

module _ {t : List ℕ} (w : Scorable t) where
  pub row_valid : (i : ℕ) → i < bus_count t → ValidRow (bus_count t) i (row t i)
  unfolding row
  row_valid i b = w.rows.valid i b

  pub degree-le : (i : ℕ) → i < bus_count t → degree t i ≤ max_degree
  unfolding row
  degree-le i b = row-le _ _ _ w.rows.spans i b

-- ---- and where rows stand

module _ (t : List ℕ) (w : Scorable t) (i : ℕ) (b : i < bus_count t) where
  abbrev s : List ℕ
  s = starts (starts_at t) t

  abbrev l : List ℕ
  l = neighbour_numbers (starts_at t) t

  -- the neighbour numbers begin here
  abbrev first : ℕ
  first = starts_at t + bus_count t + 1

  next : at s (i + 1) ≤ last (starts_at t) t
  next = omega (arith, (row_lies (bus_count t) s l w.rows.spans i b).2, length-numbers (starts_at t) t w.complete)

  ends : row_start t i + degree t i ≡ first + at s (i + 1)
  unfolding row
  ends = omega (arith, row-length (bus_count t) s l w.rows.spans i b, (row_lies (bus_count t) s l w.rows.spans i b).1)

  -- a row stands within the slice
  pub row_within : row_start t i + degree t i ≤ length t
  row_within = omega (arith, ends, next, w.complete.whole)

  -- the entries from its start on, as many as it has, are the row
  pub row_stands : part (row_start t i) (row_start t i + degree t i) t ≡ row t i
  unfolding row row_at neighbour_numbers
  row_stands = ap (λ e. part (row_start t i) e t) ends ∙ sym (part-part (at s i) (at s (i + 1)) first (entries (starts_at t) t) t (omega (arith, next)))
