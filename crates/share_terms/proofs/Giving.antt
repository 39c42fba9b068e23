-- A term given along a row, bus by bus.
use mathlib.Core.List.{List}
use mathlib.Core.Path.{◌≡◌, ap}
use Prim.Native.Nat.{ℕ, ◌+◌, ◌*◌, ◌^◌, ◌≤◌, ◌<◌}
use native.Mathlib.Nat.{mul-le-mul_left}
use native.Mathlib.Omega.{arith}
use lib.Dec.{eqb}
use lib.ListN.{length, set, take, drop, take-append-drop}
use Rattle.lists.specs.Lists.{indicator, count, ◌∈◌, at}
use Rattle.lists.proofs.Tests.{eqb_self}
use Rattle.lists.proofs.Counts.{count-append}
use Rattle.lists.proofs.Loops.{sum_by_take_next}
use Rattle.lists.proofs.Places.{in_at}
use Rattle.share_terms.specs.Added.{Added}
use Rattle.share_terms.proofs.Adding.{added_entry, added_both}

-- each bus of the row r has an entry that its terms x fit into; the first k buses have them, and bus j is the next one
module _ (r : List ℕ) (x k : ℕ) {t u : List ℕ} (room : (v : ℕ) → v ∈ r → (v < length t) × (at t v + x * count v r < 2 ^ 64))
    (w : Added (λ v. x * count v (take k r)) t u) (b : k < length r) where
  abbrev j : ℕ
  j = at r k

  one_more : (v : ℕ) → count v (take (k + 1) r) ≡ count v (take k r) + indicator (eqb v j)
  one_more v = sum_by_take_next (λ y. indicator (eqb v y)) r k b

  here : (j < length t) × (at t j + x * count j r < 2 ^ 64)
  here = room j (in_at r k b)

  pub next_there : j < length u
  next_there = omega (arith, here.0, w.long)

  pub next_fits : at u j + x < 2 ^ 64
  next_fits =
      let bounded : count j (take (k + 1) r) ≤ count j r =
      omega (arith, count-append j (take (k + 1) r) (drop (k + 1) r), ap (count j) (take-append-drop (k + 1) r)) in
      omega (arith, here.1, w.each j, mul-le-mul_left x bounded, ap (λ n. x * n) (one_more j), ap (λ a. x * indicator a) (eqb_self j))

  pub next-given : Added (λ v. x * count v (take (k + 1) r)) t (set u j (at u j + x))
  next-given = added_both w (added_entry u j x next_there) (λ v. omega (arith, ap (λ n. x * n) (one_more v)))
