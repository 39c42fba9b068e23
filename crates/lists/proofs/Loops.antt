-- Laws for loops that count up to a bound: the start, an iteration, the end, and what follows from a test over the numbers below the bound.
use Rattle.std.specs.Prelude.{Bool, true, false, ◌&&◌, ◌||◌, List, [], ◌∷◌, ◌++◌, ◌⊎◌, ◌≡◌, eqb, length, set, take}
use Rattle.std.proofs.Common.{true≢false, sym, ap, ap₂, subst, ◌∙◌, not-suc-le-zero, eq-or-lt_of_le, le_of_suc-le-suc, add-one, eqb-true}
use Rattle.std.proofs.Math.Logic.{⊎_elim}
use Rattle.std.proofs.Math.Path.{refl}
use Prim.Native.Nat.{ℕ, zero, suc, ◌+◌, ◌≤◌, ◌<◌, max}
use Rattle.std.proofs.Math.Nat.{max-eq_left, max-eq_right}
use native.Mathlib.Omega.{arith}
use Rattle.std.proofs.lemmas.Bool.{eqb-false}
use Rattle.lists.specs.Lists.{indicator, sum_by, at, Tabled}
use Rattle.lists.specs.Below.{all_below, any_below, sum_below, largest_below, join_below, map_below}
use Rattle.lists.proofs.Tests.{split, fails, never_both, and_both, and_left, and_right, or_left, or_right, eqb_comm}
use Rattle.lists.proofs.Sums.{sum_by-append}
use Rattle.lists.proofs.Places.{at_set, take_next}

-- a number below n + 1 is n, or below n
pub last_or : {i n : ℕ} → i < suc n → (i ≡ n) ⊎ (i < n)
last_or h = eq-or-lt_of_le (le_of_suc-le-suc h)

-- what holds where the loop ends holds at its bound
pub by_end : (P : ℕ → Type 0) {i n : ℕ} → P i → i ≤ n → n ≤ i → P n
by_end P {i} {n} p l g = let e : i ≡ n = omega arith in subst P e p

-- ---- the start, where no number is below the bound

pub all_below_start : (p : ℕ → Bool) → all_below 0 p ≡ true
unfolding all_below
all_below_start p = refl

pub any_below_start : (p : ℕ → Bool) → any_below 0 p ≡ false
unfolding any_below
any_below_start p = refl

-- ---- an iteration

pub all_below-next : (n : ℕ) (p : ℕ → Bool) → all_below (n + 1) p ≡ (all_below n p && p n)
unfolding all_below
all_below-next n p = rw add-one

pub any_below-next : (n : ℕ) (p : ℕ → Bool) → any_below (n + 1) p ≡ (any_below n p || p n)
unfolding any_below
any_below-next n p = rw add-one

pub sum_below-next : (n : ℕ) (f : ℕ → ℕ) → sum_below (n + 1) f ≡ sum_below n f + f n
unfolding sum_below
sum_below-next n f = rw add-one

largest_below-next : (n : ℕ) (f : ℕ → ℕ) → largest_below (n + 1) f ≡ max (largest_below n f) (f n)
unfolding largest_below
largest_below-next n f = rw add-one

pub join_below-next : (n : ℕ) (f : ℕ → List ℕ) → join_below (n + 1) f ≡ join_below n f ++ f n
unfolding join_below
join_below-next n f = rw add-one

pub map_below-next : (n : ℕ) (f : ℕ → ℕ) → map_below (n + 1) f ≡ map_below n f ++ (f n ∷ [])
unfolding map_below
map_below-next n f = join_below-next n (λ i. f i ∷ [])

-- along a list
pub sum_by-take-next : (f : ℕ → ℕ) (l : List ℕ) (k : ℕ) → k < length l → sum_by f (take (k + 1) l) ≡ sum_by f (take k l) + f (at l k)
sum_by-take-next f l k h = rw (take_next k l h) (omega (arith, sum_by-append f (take k l) (at l k ∷ [])))

-- an entry stored behind those that are right
pub tabled_next : (f : ℕ → ℕ) (n : ℕ) (l : List ℕ) {x : ℕ} → Tabled n f l → n < length l → x ≡ f n → Tabled (n + 1) f (set l n x)
tabled_next f n l {x} h b e i g =
    at_set l n x i b
    ∙ split (eqb i n)
    (λ t. let q : i ≡ n = eqb-true i n t in rw (t, q) e)
    (λ t. let d : i ≡ n → ⊥ = eqb-false i n t in rw t (h i (omega (arith, d))))

-- 1 added to one entry
pub tabled_more : (f : ℕ → ℕ) (n : ℕ) (l : List ℕ) (k : ℕ) → Tabled n f l → k < n → k < length l
    → Tabled n (λ i. f i + indicator (eqb k i)) (set l k (at l k + 1))
tabled_more f n l k h b c i g =
    at_set l k (at l k + 1) i c
    ∙ rw (eqb_comm i k)
    (split (eqb k i)
    (λ t. let q : k ≡ i = eqb-true k i t in rw (t, ← q) (ap (λ x. x + 1) (h k b)))
    (λ t. rw t (omega (arith, h i g))))

-- the next value is larger than those before it, or it is not
module _ (f : ℕ → ℕ) (i : ℕ) {m k : ℕ} (em : m ≡ largest_below i f) (ek : k ≡ f i) where
  pub largest_below_rises : m < k → k ≡ largest_below (i + 1) f
  largest_below_rises l = sym (largest_below-next i f ∙ rw (← em, ← ek) (max-eq_right (omega arith)))

  pub largest_below_stays : k ≤ m → m ≡ largest_below (i + 1) f
  largest_below_stays l = sym (largest_below-next i f ∙ rw (← em, ← ek) (max-eq_left l))

-- ---- every number passes

module _ (p : ℕ → Bool) where
  pub all_below-at : (n : ℕ) {i : ℕ} → all_below n p ≡ true → i < n → p i ≡ true
  unfolding all_below
  all_below-at zero h l = absurd (not-suc-le-zero l)
  all_below-at (suc n) h l =
      ⊎_elim (λ e. rw e (and_right (all_below n p) (p n) h)) (λ l. all_below-at n (and_left (all_below n p) (p n) h) l) (last_or l)

  pub all_below_by : (n : ℕ) → ((i : ℕ) → i < n → p i ≡ true) → all_below n p ≡ true
  unfolding all_below
  all_below_by zero h = refl
  all_below_by (suc n) h = and_both (all_below n p) (p n) (all_below_by n (λ i l. h i (omega arith))) (h n (omega arith))

  -- an iteration passes; an iteration fails; the loop is through
  pub all_below_more : (i : ℕ) → all_below i p ≡ true → p i ≡ true → all_below (i + 1) p ≡ true
  all_below_more i h k = all_below-next i p ∙ and_both (all_below i p) (p i) h k

  pub all_below_fails : (n i : ℕ) → i < n → p i ≡ false → all_below n p ≡ false
  all_below_fails n i l f = fails (all_below n p) (λ t. never_both (all_below-at n t l) f)

  pub all_below_done : (n i : ℕ) → all_below i p ≡ true → i ≤ n → n ≤ i → all_below n p ≡ true
  all_below_done n i = by_end (λ m. all_below m p ≡ true)

pub all_below-same : (p q : ℕ → Bool) (n : ℕ) → ((i : ℕ) → i < n → p i ≡ q i) → all_below n p ≡ all_below n q
unfolding all_below
all_below-same p q zero h = refl
all_below-same p q (suc n) h = ap₂ ◌&&◌ (all_below-same p q n (λ i l. h i (omega arith))) (h n (omega arith))

-- ---- some number passes

module _ (p : ℕ → Bool) where
  pub any_below-at : (n : ℕ) → any_below n p ≡ true → (i : ℕ) × (i < n) × (p i ≡ true)
  unfolding any_below
  any_below-at zero h = absurd (true≢false (sym h))
  any_below-at (suc n) h =
      split (any_below n p) (λ t. let w = any_below-at n t in (w.0, omega (arith, w.1), w.2)) (λ f. (n, omega arith, rw f at h))

  pub any_below_by : (n i : ℕ) → i < n → p i ≡ true → any_below n p ≡ true
  unfolding any_below
  any_below_by zero i l h = absurd (not-suc-le-zero l)
  any_below_by (suc n) i l h =
      ⊎_elim (λ e. or_right (any_below n p) (p n) (rw (← e) h)) (λ l. or_left (any_below n p) (p n) (any_below_by n i l h)) (last_or l)

  -- an iteration does not pass
  pub any_below_more : (i : ℕ) → any_below i p ≡ false → p i ≡ false → any_below (i + 1) p ≡ false
  any_below_more i h k = any_below-next i p ∙ rw (h, k)

  -- no number passes
  pub any_below-none : (n : ℕ) {i : ℕ} → any_below n p ≡ false → i < n → p i ≡ false
  any_below-none n {i} h l = fails (p i) (λ t. never_both (any_below_by n i l t) h)

  pub any_below_fails : (n : ℕ) → ((i : ℕ) → i < n → p i ≡ false) → any_below n p ≡ false
  any_below_fails n h = fails (any_below n p) (λ t. let w = any_below-at n t in never_both w.2 (h w.0 w.1))

-- tests that agree below n agree on some number
pub any_below-same : (p q : ℕ → Bool) (n : ℕ) → ((i : ℕ) → i < n → p i ≡ q i) → any_below n p ≡ any_below n q
unfolding any_below
any_below-same p q zero h = refl
any_below-same p q (suc n) h = ap₂ ◌||◌ (any_below-same p q n (λ i l. h i (omega arith))) (h n (omega arith))
