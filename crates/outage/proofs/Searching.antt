-- How the buses above a bus are found in its row, and how one is left out.
use mathlib.Core.List.{List, [], ◌∷◌, ◌++◌, append-nil}
use mathlib.Core.Logic.{⊎_elim}
use mathlib.Core.Path.{◌≡◌, ap, ◌∙◌}
use Prim.Native.Nat.{ℕ, ◌+◌, ◌≤◌, ◌<◌}
use native.Mathlib.Omega.{arith}
use borrow.Author.Tests.{ne_eqb, eq-eqb}
use lib.ListN.{length, set, take, length-append}
use lib.Seq.{length-take-le}
use Rattle.lists.specs.Lists.{without, at, Ascending, WrittenAt}
use Rattle.lists.proofs.Places.{take_next}
use Rattle.lists.proofs.Loops.{last_or}
use Rattle.lists.proofs.Without.{without-append, length-without-le}
use Rattle.lists.proofs.Writes.{stored_entry}
use Rattle.outage.specs.StudyWork.{Above}

-- ---- the search: buses before place `low` are not above the bus, and those from place `high` on are

pub record Between (r : List ℕ) (bus low high : ℕ) : Type 0 where
  pub ordered : low ≤ high
  pub inside : high ≤ length r
  pub before : (i : ℕ) → i < low → at r i ≤ bus
  pub behind : (i : ℕ) → high ≤ i → i < length r → bus < at r i

pub search_start : (r : List ℕ) (bus : ℕ) {n : ℕ} → n ≡ length r → Between r bus 0 n
search_start r bus e = record {
  ordered = omega arith;
  inside = omega arith;
  before = λ i b. absurd (omega arith);
  behind = λ i b c. absurd (omega arith);
}

-- x is the bus in the middle
module _ {r : List ℕ} (up : Ascending r) {bus low high middle x : ℕ} (w : Between r bus low high) (l : low ≤ middle) (m : middle < high) (e : x ≡ at r middle) where
  pub search_up : x ≤ bus → Between r bus (middle + 1) high
  search_up h = record {
    ordered = omega arith;
    inside = w.inside;
    before = λ i b. ⊎_elim (λ q. omega (arith, ap (at r) q)) (λ c. omega (arith, up i middle c (omega (arith, w.inside)))) (last_or {i = i} {n = middle} (omega arith));
    behind = w.behind;
  }

  pub search_down : bus < x → Between r bus low middle
  search_down h = record {
    ordered = l;
    inside = omega (arith, w.inside);
    before = w.before;
    behind = λ i b c. ⊎_elim (λ q. omega (arith, ap (at r) q)) (λ d. omega (arith, up middle i d c)) (last_or {i = middle} {n = i} (omega arith));
  }

pub search_end : {r : List ℕ} {bus low high : ℕ} → Between r bus low high → high ≤ low → Above r bus low
search_end w h = record { inside = omega (arith, w.ordered, w.inside); before = w.before; behind = λ i b c. w.behind i (omega arith) c }

-- ---- leaving one out: of the first k buses of r those that are not `bus` were copied to the front of t, which left u

module _ (r : List ℕ) (bus k : ℕ) (t : List ℕ) {many : ℕ} {u : List ℕ} (w : WrittenAt (without (bus ∷ []) (take k r)) 0 t many u) where
  module _ (b : k < length r) where
    pub many_le : many ≤ k
    many_le = omega (arith, w.0, length-without-le (bus ∷ []) (take k r), length-take-le k r (omega arith))

    more : without (bus ∷ []) (take (k + 1) r) ≡ without (bus ∷ []) (take k r) ++ without (bus ∷ []) (at r k ∷ [])
    more = ap (without (bus ∷ [])) (take_next k r b) ∙ without-append (bus ∷ []) (take k r) (at r k ∷ [])

    pub copied_next : (at r k ≡ bus → ⊥) → length r ≤ length t → WrittenAt (without (bus ∷ []) (take (k + 1) r)) 0 t (many + 1) (set u many (at r k))
    copied_next q h =
        let next : without (bus ∷ []) (take (k + 1) r) ≡ without (bus ∷ []) (take k r) ++ (at r k ∷ []) = more ∙ rw (ne_eqb (at r k) bus q) in (
          omega (arith, w.0, ap length next, length-append (without (bus ∷ []) (take k r)) (at r k ∷ [])),
          rw next (stored_entry t 0 (without (bus ∷ []) (take k r)) w.1 w.0 (at r k) (omega (arith, many_le))),
        )

    pub left_out : at r k ≡ bus → WrittenAt (without (bus ∷ []) (take (k + 1) r)) 0 t many u
    left_out q = let same : without (bus ∷ []) (take (k + 1) r) ≡ without (bus ∷ []) (take k r) = more ∙ rw (eq-eqb (at r k) bus q) (append-nil _) in rw same w
