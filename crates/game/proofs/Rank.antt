-- At which place a player stands: each place equally often.
use Rattle.std.specs.Prelude.{false, List, [], ◌∷◌, ◌++◌, ◌≡◌, ℕ, zero, suc, ◌+◌, ◌-◌, ◌*◌, ◌≤◌, eqb, length}
use Rattle.std.proofs.Common.{ap, ap₂, ◌∙◌, sub-add_cancel, le_refl, arith, length-append}
use Rattle.lists.specs.Lists.{indicator, count}
use Rattle.lists.specs.Below.{sum_below}
use Rattle.lists.proofs.Tests.{fails, eqb_self}
use Rattle.game.specs.Orders.{factorial, before}
use Rattle.game.specs.Arrange.{over_insertions, over_orders}
use Rattle.game.proofs.Arrange.{over_insertions_cong, over_orders_cong, length_inserted, length_order}
use Rattle.game.proofs.Joining.{over_insertions_const, over_insertions-before}

shift : (g : ℕ → ℕ) (m t : ℕ) → t ≤ m → sum_below t (λ j. suc j * g (suc j) + (m - j) * g j) ≡ m * sum_below t g + t * g t
unfolding sum_below
shift g m zero h = omega arith
shift g m (suc t) h = omega (arith, shift g m t (omega arith), ap (λ n. n * g t) (sub-add_cancel {n = m} {m = t} (omega arith)))

over_insertions-length : (b : ℕ) (s : List ℕ) (g : ℕ → ℕ) → over_insertions b s (λ r. g (length r)) ≡ suc (length s) * g (suc (length s))
over_insertions-length b s g = over_insertions_cong s (λ r i. ap g (length_inserted i)) ∙ over_insertions_const b s (g (suc (length s)))

-- THE RANK: in the orders of b and v, v stands behind 0, 1, .. up to all members of b, each in (length b)! orders
pub rank : (v : ℕ) (b : List ℕ) → count v b ≡ 0 → (g : ℕ → ℕ)
    → over_orders (b ++ (v ∷ [])) (λ l. g (length (before v l))) ≡ factorial (length b) * sum_below (suc (length b)) g
unfolding sum_below
rank v [] h g = rw (eqb_self v) (omega arith)
rank v (x ∷ b) h g =
    let m = suc (length b) in
    let g' : ℕ → ℕ = λ j. suc j * g (suc j) + (m - j) * g j in
    let n : eqb v x ≡ false = fails (eqb v x) (λ e. omega (arith, ap indicator e)) in
    over_orders_cong (b ++ (v ∷ [])) (λ l o.
    let lb : length l ≡ m = omega (arith, length_order o, length-append b (v ∷ [])) in
    over_insertions-before x v n l (λ s. g (length s))
    ∙ ap₂ ◌+◌ (over_insertions-length x (before v l) g) (ap (λ k. (k - length (before v l)) * g (length (before v l))) lb))
    ∙ rank v b (omega arith) g'
    ∙ omega (arith, ap (λ k. factorial (length b) * k) (shift g m m (le_refl m)))
