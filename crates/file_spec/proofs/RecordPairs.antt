-- Laws of the pairs that records join.
use Rattle.std.specs.Prelude.{Bool, true, false, not, ◌&&◌, ◌||◌, List, [], ◌≡◌, eqb, length}
use Rattle.std.proofs.Math.Bool.{and_comm, or_comm, or-false}
use Rattle.std.proofs.Common.{inl, inr, ⊎_elim, sym, ap₂, ◌∙◌, eqb-true, eq-eqb, ne_eqb}
use Rattle.std.proofs.Math.Path.{ap, fun_ext}
use Prim.Native.Nat.{ℕ, zero, suc, ◌+◌, ◌*◌, ◌≤◌, ◌<◌}
use native.Mathlib.Omega.{arith}
use Rattle.lists.specs.Lists.{indicator}
use Rattle.lists.specs.Below.{any_below, sum_below, count_below, join_below, list_below}
use Rattle.lists.proofs.Tests.{split, and_left, and_right, or_cases}
use Rattle.lists.proofs.Sums.{indicator_grows, indicator-or}
use Rattle.lists.proofs.Loops.{any_below-at, any_below_by, any_below-next, sum_below-next}
use Rattle.lists.proofs.SumsBelow.{sum_below-same, sum_below-add, sum_below-le, sum_below_const, count_below-le, count_below-one}
use Rattle.lists.proofs.JoinBelow.{length-join_below}
use Rattle.lists.proofs.ListBelow.{length-list_below, list_below-same, list_below-none}
use Rattle.file_spec.specs.FileBytes.{first_end, second_end}
use Rattle.file_spec.specs.SoundSections.{SoundEnds}
use Rattle.file_spec.specs.Records.{joins, joined, neighbours, repeats, pair_count}
use Rattle.file_spec.specs.RecordPairs.{EndsAre}

-- who is joined to whom, either way round
pub joined_sym : (m : ℕ) (r : List ℕ) (i j : ℕ) → joined m r i j ≡ joined m r j i
unfolding joined joins
joined_sym m r i j =
    ap (any_below m) (fun_ext (λ k. or_comm (eqb (first_end r k) i && eqb (second_end r k) j) (eqb (first_end r k) j && eqb (second_end r k) i)))

pub joined-next : (k : ℕ) (r : List ℕ) (i j : ℕ) → joined (k + 1) r i j ≡ (joined k r i j || joins r i j k)
unfolding joined
joined-next k r i j = any_below-next k (joins r i j)

joins_facts : (r : List ℕ) (i j k : ℕ) → joins r i j k ≡ true → EndsAre r i j k
unfolding joins
joins_facts r i j k h =
    let a = first_end r k in
    let b = second_end r k in
    ⊎_elim
    (λ e. inl (eqb-true a i (and_left (eqb a i) (eqb b j) e), eqb-true b j (and_right (eqb a i) (eqb b j) e)))
    (λ e. inr (eqb-true a j (and_left (eqb a j) (eqb b i) e), eqb-true b i (and_right (eqb a j) (eqb b i) e)))
    (or_cases (eqb a i && eqb b j) (eqb a j && eqb b i) h)

-- where i and j are joined, by such a record
pub joined_at : (m : ℕ) (r : List ℕ) (i j : ℕ) → joined m r i j ≡ true → (k : ℕ) × (k < m) × EndsAre r i j k
unfolding joined
joined_at m r i j h = let w = any_below-at (joins r i j) m h in (w.0, w.1, joins_facts r i j w.0 w.2)

-- and a record with these ends joins them
pub joined_by : (m : ℕ) (r : List ℕ) (i j k : ℕ) → k < m → first_end r k ≡ i → second_end r k ≡ j → joined m r i j ≡ true
unfolding joined joins
joined_by m r i j k l e f = any_below_by (joins r i j) m k l (rw (eq-eqb (first_end r k) i e, eq-eqb (second_end r k) j f))

-- a pair that record k joins is the record's own pair
joins-own : (r : List ℕ) (i j k : ℕ) → joins r i j k ≡ true → joined k r i j ≡ repeats r k
unfolding repeats
joins-own r i j k h =
    ⊎_elim (λ e. ap₂ (joined k r) (sym e.0) (sym e.1)) (λ e. joined_sym k r i j ∙ ap₂ (joined k r) (sym e.0) (sym e.1)) (joins_facts r i j k h)

-- a record that repeats a pair joins nobody anew
pub joined_again : (k : ℕ) (r : List ℕ) (i j : ℕ) → repeats r k ≡ true → (joined k r i j || joins r i j k) ≡ joined k r i j
joined_again k r i j h = split (joins r i j k) (λ e. rw (joins-own r i j k e ∙ h)) (λ e. rw e (or-false (joined k r i j)))

-- ---- the neighbours that records give a bus

-- without records none
pub neighbours-none : (n : ℕ) (r : List ℕ) (i : ℕ) → neighbours n 0 r i ≡ []
unfolding neighbours joined any_below
neighbours-none n r i = list_below-none n

-- no more than there are buses
pub neighbours-le : (n k : ℕ) (r : List ℕ) (i : ℕ) → length (neighbours n k r i) ≤ n
unfolding neighbours
neighbours-le n k r i = omega (arith, length-list_below n (joined k r i), count_below-le (joined k r i) n)

-- by record k too, those that it joins to the bus
pub neighbours-next : (n k : ℕ) (r : List ℕ) (i : ℕ) → neighbours n (k + 1) r i ≡ list_below n (λ j. joined k r i j || joins r i j k)
unfolding neighbours
neighbours-next n k r i = list_below-same _ _ n (λ j l. joined-next k r i j)

-- which are none if it names a pair again
pub neighbours_again : (n k : ℕ) (r : List ℕ) → repeats r k ≡ true → (i : ℕ) → neighbours n (k + 1) r i ≡ neighbours n k r i
unfolding neighbours
neighbours_again n k r h i = neighbours-next n k r i ∙ list_below-same _ _ n (λ j l. joined_again k r i j h)

-- more records give a bus no fewer neighbours
pub neighbours_grows : (n k m : ℕ) (r : List ℕ) (i : ℕ) → k ≤ m → length (neighbours n k r i) ≤ length (neighbours n m r i)
unfolding neighbours joined
neighbours_grows n k m r i l =
    omega (
      arith,
      length-list_below n (joined k r i),
      length-list_below n (joined m r i),
      sum_below-le (λ j. indicator (joined k r i j)) (λ j. indicator (joined m r i j)) n λ j b.
          indicator_grows (joined k r i j) (joined m r i j) (λ h. let w = any_below-at (joins r i j) k h in any_below_by (joins r i j) m w.0 (omega (arith, w.1)) w.2),
    )

-- ---- how many different pairs there are

-- no more than records
pub pair_count-le : (m : ℕ) (r : List ℕ) → pair_count m r ≤ m
unfolding pair_count
pair_count-le m r = count_below-le (λ k. not (repeats r k)) m

-- record k names one more, unless it repeats a pair
pub pair_count-next : (k : ℕ) (r : List ℕ) → pair_count (k + 1) r ≡ pair_count k r + indicator (not (repeats r k))
unfolding pair_count
pair_count-next k r = sum_below-next k (λ i. indicator (not (repeats r i)))

-- where one number below n passes q, one passes p and q if p holds
count-and : (p : Bool) (q : ℕ → Bool) (n : ℕ) → count_below n q ≡ 1 → count_below n (λ j. p && q j) ≡ indicator p
count-and true q n e = e
count-and false q n e = sum_below_const 0 n ∙ omega arith

-- a record with the ends a and b joins a to b, and b to a
module _ (a b : ℕ) (apart : a ≡ b → ⊥) (n : ℕ) (la : a < n) (lb : b < n) where
  joined_to : (i : ℕ) → count_below n (λ j. (eqb a i && eqb b j) || (eqb a j && eqb b i)) ≡ indicator (eqb a i) + indicator (eqb b i)
  joined_to i =
      sum_below-same _ _ n (λ j l. indicator-or (eqb a i && eqb b j) (eqb a j && eqb b i) (never j))
      ∙ sum_below-add (λ j. indicator (eqb a i && eqb b j)) (λ j. indicator (eqb a j && eqb b i)) n
      ∙ ap₂ ◌+◌ (count-and (eqb a i) (eqb b) n (count_below-one b n lb))
      (sum_below-same _ _ n (λ j l. ap indicator (and_comm (eqb a j) (eqb b i))) ∙ count-and (eqb b i) (eqb a) n (count_below-one a n la))
    where
      never : (j : ℕ) → (eqb a j && eqb b i) ≡ true → (eqb a i && eqb b j) ≡ false
      never j e = ap (λ t. t && eqb b j) (ne_eqb a i (λ q. apart (q ∙ sym (eqb-true b i (and_right (eqb a j) (eqb b i) e)))))

  joined_twice : sum_below n (λ i. count_below n (λ j. (eqb a i && eqb b j) || (eqb a j && eqb b i))) ≡ 2
  joined_twice =
      sum_below-same _ _ n (λ i l. joined_to i)
      ∙ sum_below-add (λ i. indicator (eqb a i)) (λ i. indicator (eqb b i)) n
      ∙ ap₂ ◌+◌ (count_below-one a n la) (count_below-one b n lb)

-- m records whose ends are two different buses below n
module _ (n m : ℕ) (r : List ℕ) (ends : SoundEnds n m r) where
  -- how many numbers all rows have, of the first k records
  numbers : ℕ → ℕ
  numbers k = sum_below n (λ i. count_below n (joined k r i))

  -- record k adds two, or none if it repeats a pair
  numbers-next : (k : ℕ) → k < m → sum_below n (λ i. count_below n (λ j. joined k r i j || joins r i j k)) ≡ numbers k + 2 * indicator (not (repeats r k))
  unfolding joins numbers
  numbers-next k l =
      let e = ends k l in
      split (repeats r k)
      (λ h. rw h (sum_below-same _ _ n (λ i b. sum_below-same _ _ n (λ j c. ap indicator (joined_again k r i j h))) ∙ omega arith))
      (λ h. rw h
      (sum_below-same _ _ n
      (λ i b. sum_below-same _ _ n (λ j c. indicator-or (joined k r i j) (joins r i j k) (λ t. joins-own r i j k t ∙ h))
      ∙ sum_below-add (λ j. indicator (joined k r i j)) (λ j. indicator (joins r i j k)) n)
      ∙ sum_below-add (λ i. count_below n (joined k r i)) (λ i. count_below n (λ j. joins r i j k)) n
      ∙ ap (λ s. numbers k + s) (joined_twice (first_end r k) (second_end r k) e.2 n e.0 e.1)))

  numbers-pairs : (k : ℕ) → k ≤ m → numbers k ≡ 2 * pair_count k r
  unfolding numbers joined any_below sum_below pair_count
  numbers-pairs zero l = sum_below-same _ (λ i. 0) n (λ i b. sum_below_const 0 n ∙ omega arith) ∙ sum_below_const 0 n ∙ omega arith
  numbers-pairs (suc k) l = omega (arith, numbers-next k l, numbers-pairs k (omega arith))

  -- so that the rows have two numbers for each different pair
  pub rows-length : length (join_below n (neighbours n m r)) ≡ 2 * pair_count m r
  unfolding neighbours numbers
  rows-length =
      length-join_below n (neighbours n m r) ∙ sum_below-same _ _ n (λ i l. length-list_below n (joined m r i)) ∙ numbers-pairs m (omega arith)
