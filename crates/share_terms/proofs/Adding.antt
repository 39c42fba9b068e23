-- Laws of adding to the entries of a slice.
use Rattle.std.specs.Prelude.{List, ◌≡◌, refl, ℕ, ◌+◌, ◌*◌, ◌≤◌, ◌<◌, eqb, length, set, replicate}
use Rattle.std.proofs.Common.{ap, ◌∙◌, arith, eqb-true, length-set}
use Rattle.std.proofs.lemmas.List.{length-replicate}
use Rattle.lists.specs.Lists.{indicator, at, put}
use Rattle.lists.specs.Below.{map_below}
use Rattle.lists.proofs.Tests.{split}
use Rattle.lists.proofs.Places.{at-zeros, at_set}
use Rattle.lists.proofs.Writes.{length-put, at_front, behind-front, put_tabled}
use Rattle.share_terms.specs.Added.{Added}

-- nothing
pub added_none : {f : ℕ → ℕ} → ((x : ℕ) → f x ≡ 0) → (t : List ℕ) → Added f t t
added_none z t = record { long = refl; each = λ x. omega (arith, z x) }

-- to one entry
pub added_entry : (t : List ℕ) (k c : ℕ) → k < length t → Added (λ x. c * indicator (eqb x k)) t (set t k (at t k + c))
added_entry t k c h =
    record {
      long = length-set t k (at t k + c);
      each = λ x. at_set t k (at t k + c) x h ∙ split (eqb x k)
          (λ e. rw e (omega (arith, ap (at t) (eqb-true x k e))))
          (λ e. rw e (omega arith));
    }

-- what was added, by another name
pub added_same : {f g : ℕ → ℕ} {t u : List ℕ} → Added f t u → ((x : ℕ) → g x ≡ f x) → Added g t u
added_same a e = record { long = a.long; each = λ x. omega (arith, a.each x, e x) }

-- one addition after another: h is both together
pub added_both : {f g h : ℕ → ℕ} {t u v : List ℕ} → Added f t u → Added g u v → ((x : ℕ) → h x ≡ f x + g x) → Added h t v
added_both a b e = record { long = b.long ∙ a.long; each = λ x. omega (arith, a.each x, b.each x, e x) }

-- the first n entries of t were cleared, which left u
module _ (t : List ℕ) {n : ℕ} {u : List ℕ} (h : n ≤ length t) (cleared : u ≡ put t 0 (replicate n 0)) where
  pub cleared_long : length u ≡ length t
  cleared_long = ap length cleared ∙ length-put t 0 (replicate n 0) (omega (arith, length-replicate {A = ℕ} n 0))

  pub cleared_zero : (x : ℕ) → x < n → at u x ≡ 0
  cleared_zero x b = ap (λ l. at l x) cleared ∙ at_front t (replicate n 0) x (omega (arith, length-replicate {A = ℕ} n 0)) ∙ at-zeros n x

  -- and all that was added after that was g 0, g 1, .. up to g (n - 1)
  pub added_zeros : {f g : ℕ → ℕ} {v : List ℕ} → Added f u v → ((x : ℕ) → x < n → f x ≡ g x) → ((x : ℕ) → n ≤ x → f x ≡ 0) → v ≡ put t 0 (map_below n g)
  added_zeros {f} {g} {v} a first rest =
      put_tabled t n g h
      (a.long ∙ cleared_long)
      (λ x b. omega (arith, a.each x, cleared_zero x b, first x b))
      (λ x b. omega (arith, a.each x, ap (λ l. at l x) cleared, behind-front t (replicate n 0) x (omega (arith, length-replicate {A = ℕ} n 0)), rest x b))
