-- What the test of a row has found after some of its entries.
use Rattle.std.proofs.Common.{◌≡◌, List, ℕ, ◌+◌, ◌≤◌, ◌<◌, length, arith, ◌⊎◌, ⊎_elim}
use Rattle.lists.specs.Lists.{at}
use Rattle.table_spec.specs.Holds.{ValidRow}

-- after k entries: they are valid and below `least`, which is 0 or next after one of them
pub record Passed (n i : ℕ) (r : List ℕ) (k least : ℕ) : Type 0 where
  pub each : (q : ℕ) → q < k → (at r q < n) × (at r q ≡ i → ⊥) × ((p : ℕ) → p < q → at r p < at r q)
  pub under : (q : ℕ) → q < k → at r q < least
  pub reached : (least ≡ 0) ⊎ ((p : ℕ) × (p < k) × (least ≡ at r p + 1))

pub too_late : {n i : ℕ} {r : List ℕ} {k least : ℕ} → Passed n i r k least → k < length r → at r k < least → ValidRow n i r → ⊥
too_late {k = k} w b g t = ⊎_elim (λ z. omega arith) (λ z. omega (arith, z.2, t.ascends z.0 k z.1 b)) w.reached

pub all_passed : {n i : ℕ} {r : List ℕ} {k least : ℕ} → Passed n i r k least → length r ≤ k → ValidRow n i r
all_passed w g =
    record {
      below = λ q l. (w.each q (omega arith)).0;
      others = λ q l. (w.each q (omega arith)).1;
      ascends = λ p q a l. (w.each q (omega arith)).2 p a;
    }
