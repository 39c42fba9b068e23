-- Laws of sums over the members of a list.
use Rattle.std.specs.Prelude.{Bool, true, false, cond, ◌&&◌, ◌||◌, ◌≡◌, ℕ, ◌+◌, ◌-◌, ◌*◌, ◌≤◌, length}
use Rattle.std.proofs.Common.{true≢false, sym, ◌∙◌, zero-le, zero-add, mul-zero, mul-one, add-le-add, arith}
use mathlib.Core.List.{List, [], ◌∷◌, ◌++◌, map, flat_map}
use Rattle.std.proofs.Math.Path.{refl, ap, fun_ext}
use Rattle.lists.specs.Lists.{indicator, sum_by}

-- ---- one test

pub indicator-le : (b : Bool) → indicator b ≤ 1
indicator-le true = omega arith
indicator-le false = omega arith

pub indicator_grows : (a b : Bool) → (a ≡ true → b ≡ true) → indicator a ≤ indicator b
indicator_grows true b h = rw (h refl) (omega arith)
indicator_grows false b h = zero-le

pub indicator-and : (a b : Bool) → indicator (a && b) ≡ indicator a * indicator b
indicator-and true b = omega arith
indicator-and false b = omega arith

pub indicator-or-le : (a b : Bool) → indicator (a || b) ≤ indicator a + indicator b
indicator-or-le true b = omega arith
indicator-or-le false b = omega arith

-- two tests of which only one passes
pub indicator-or : (a b : Bool) → (b ≡ true → a ≡ false) → indicator (a || b) ≡ indicator a + indicator b
indicator-or true true h = absurd (true≢false (h refl))
indicator-or true false h = refl
indicator-or false b h = sym (zero-add (indicator b))

pub cond-indicator : (b : Bool) (x : ℕ) → cond b x 0 ≡ x * indicator b
cond-indicator true x = omega arith
cond-indicator false x = omega arith

-- ---- all members

module _ {ℓ} {A : Type ℓ} where
  pub sum_by_cong : {f g : A → ℕ} → ((x : A) → f x ≡ g x) → (l : List A) → sum_by f l ≡ sum_by g l
  sum_by_cong e l = ap (λ h. sum_by h l) (fun_ext e)

  pub sum_by-append : (f : A → ℕ) (l m : List A) → sum_by f (l ++ m) ≡ sum_by f l + sum_by f m
  sum_by-append f [] m = sym (zero-add (sum_by f m))
  sum_by-append f (x ∷ l) m = omega (arith, sum_by-append f l m)

  pub sum_by-add : (f g : A → ℕ) (l : List A) → sum_by (λ x. f x + g x) l ≡ sum_by f l + sum_by g l
  sum_by-add f g [] = refl
  sum_by-add f g (x ∷ l) = omega (arith, sum_by-add f g l)

  pub sum_by_scale : (c : ℕ) (f : A → ℕ) (l : List A) → sum_by (λ x. c * f x) l ≡ c * sum_by f l
  sum_by_scale c f [] = sym (mul-zero c)
  sum_by_scale c f (x ∷ l) = omega (arith, sum_by_scale c f l)

  pub sum_by_const : (c : ℕ) (l : List A) → sum_by (λ x. c) l ≡ length l * c
  sum_by_const c [] = omega arith
  sum_by_const c (x ∷ l) = omega (arith, sum_by_const c l)

  pub sum_by-zero : (l : List A) → sum_by (λ x. 0) l ≡ 0
  sum_by-zero l = sum_by_const 0 l ∙ mul-zero (length l)

  pub sum_by_ones : (l : List A) → sum_by (λ x. 1) l ≡ length l
  sum_by_ones l = sum_by_const 1 l ∙ mul-one (length l)

  pub sum_by_le : {f g : A → ℕ} → ((x : A) → f x ≤ g x) → (l : List A) → sum_by f l ≤ sum_by g l
  sum_by_le h [] = zero-le
  sum_by_le h (x ∷ l) = add-le-add (h x) (sum_by_le h l)

  -- where no difference is cut off at 0, the differences add up
  pub sum_by-sub : {f g : A → ℕ} → ((x : A) → g x ≤ f x) → (l : List A) → sum_by f l - sum_by g l ≡ sum_by (λ x. f x - g x) l
  sum_by-sub h [] = refl
  sum_by-sub {f} {g} h (x ∷ l) = omega (arith, h x, sum_by_le h l, sum_by-sub {f = f} {g = g} h l)

module _ {ℓ κ} {A : Type ℓ} {B : Type κ} where
  pub sum_by-map : (f : B → ℕ) (g : A → B) (l : List A) → sum_by f (map g l) ≡ sum_by (λ x. f (g x)) l
  sum_by-map f g [] = refl
  sum_by-map f g (x ∷ l) = ap (λ n. f (g x) + n) (sum_by-map f g l)

  pub sum_by_flat_map : (f : B → ℕ) (g : A → List B) (l : List A) → sum_by f (flat_map g l) ≡ sum_by (λ x. sum_by f (g x)) l
  unfolding flat_map
  sum_by_flat_map f g [] = refl
  sum_by_flat_map f g (x ∷ l) = sum_by-append f (g x) (flat_map g l) ∙ ap (λ n. sum_by f (g x) + n) (sum_by_flat_map f g l)

  -- a double sum may be taken in either order
  pub sum_by_swap : (f : A → B → ℕ) (l : List A) (m : List B) → sum_by (λ x. sum_by (f x) m) l ≡ sum_by (λ y. sum_by (λ x. f x y) l) m
  sum_by_swap f [] m = sym (sum_by-zero m)
  sum_by_swap f (x ∷ l) m = ap (λ n. sum_by (f x) m + n) (sum_by_swap f l m) ∙ sym (sum_by-add (f x) (λ y. sum_by (λ x. f x y) l) m)
