-- Laws of the value of recorders: it goes by which buses carry one, is 0 where none does, and never falls.
use Rattle.std.specs.Prelude.{Bool, true, false, cond, List, [], ◌∷◌, ◌≡◌, ℕ, ◌≤◌, ◌<◌, leb}
use Rattle.std.proofs.Common.{ap, ◌∙◌, mul-le-mul_left, arith, leb-true, le-leb}
use Rattle.std.proofs.lemmas.Bool.{lt-leb}
use Rattle.lists.specs.Lists.{indicator, has}
use Rattle.lists.proofs.Tests.{split, or_left, or_right}
use Rattle.lists.proofs.Sums.{cond-indicator, indicator_grows, sum_by_cong, sum_by-zero, sum_by_le}
use Rattle.lists.proofs.Counts.{has_grows, count_in-none, count_in_grows, sum_by_cong_in}
use Rattle.game.specs.Game.{Game, seen, value, GameOn}

-- ---- a list of recorders stands for a set

seen_same : (g : Game) (s t : List ℕ) → ((x : ℕ) → has x s ≡ has x t) → (u : ℕ) → seen g u s ≡ seen g u t
unfolding seen
seen_same g s t h u = cc (h u, sum_by_cong (λ x. ap indicator (h x)) (g.watchers u))

-- neither the order of s nor a repeat in it matters
pub value_same : (g : Game) (ps s t : List ℕ) → ((x : ℕ) → has x s ≡ has x t) → value g ps s ≡ value g ps t
unfolding value
value_same g ps s t h = simp (seen_same g s t h)

-- ---- one recorder more

leb_grows : (k a b : ℕ) → a ≤ b → leb k a ≡ true → leb k b ≡ true
leb_grows k a b h t = le-leb k b (omega (arith, leb-true k a t))

pub seen_grows : (g : Game) (u v : ℕ) (s : List ℕ) → seen g u s ≡ true → seen g u (v ∷ s) ≡ true
unfolding seen
seen_grows g u v s t =
    split (has u s)
    (λ e. or_left (has u (v ∷ s)) _ (has_grows v u s e))
    (λ e. or_right (has u (v ∷ s)) _ (leb_grows _ _ _ (count_in_grows v s (g.watchers u)) (rw e at t)))

pub worth_grows : (a b : Bool) (w : ℕ) → (a ≡ true → b ≡ true) → cond a w 0 ≤ cond b w 0
worth_grows a b w h = rw (cond-indicator a w, cond-indicator b w) (mul-le-mul_left w (indicator_grows a b h))

-- a recorder more never lowers the value, so the difference of naturals in `gain` loses nothing
pub value_grows : (g : Game) (ps : List ℕ) (v : ℕ) (s : List ℕ) → value g ps s ≤ value g ps (v ∷ s)
unfolding value
value_grows g ps v s = sum_by_le (λ u. worth_grows (seen g u s) (seen g u (v ∷ s)) _ (seen_grows g u v s)) ps

-- ---- no recorders

leb-none : (k n : ℕ) → n ≡ 0 → 0 < k → leb k n ≡ false
leb-none k n e h = lt-leb k n (omega arith)

seen_none : (g : Game) (u : ℕ) → 0 < g.need u → seen g u [] ≡ false
unfolding seen
seen_none g u hk = leb-none _ _ (count_in-none (g.watchers u)) (omega arith)

pub value_none : (g : Game) (ps : List ℕ) → GameOn ps g → value g ps [] ≡ 0
unfolding value
value_none g ps on = sum_by_cong_in ps (λ u hu. rw (seen_none g u (on.needs u hu))) ∙ sum_by-zero ps
