-- Laws of Boolean tests.
use Rattle.std.specs.Prelude.{Bool, true, false, not, ◌&&◌, ◌||◌, ◌⊎◌, ◌≡◌, refl, ℕ, eqb}
use Rattle.std.proofs.Common.{true≢false, inl, inr, sym, ap, ◌∙◌, eqb-true, eq-eqb}
use Rattle.std.proofs.lemmas.Bool.{not-true, not-false}

-- a case split that keeps the test's answer
pub split {ℓ} : {P : Type ℓ} (b : Bool) → (b ≡ true → P) → (b ≡ false → P) → P
split true f g = f refl
split false f g = g refl

-- a test whose failure is absurd passes, and one whose passing is absurd fails
pub passes : (b : Bool) → (b ≡ false → ⊥) → b ≡ true
passes b h = split b (λ e. e) (λ e. absurd (h e))

pub fails : (b : Bool) → (b ≡ true → ⊥) → b ≡ false
fails b h = split b (λ e. absurd (h e)) (λ e. e)

-- no test does both
pub never_both : {b : Bool} → b ≡ true → b ≡ false → ⊥
never_both p q = true≢false (sym p ∙ q)

-- two tests that imply one another agree
pub same_test : (a b : Bool) → (a ≡ true → b ≡ true) → (b ≡ true → a ≡ true) → a ≡ b
same_test a b f g = split a (λ e. e ∙ sym (f e)) (λ e. e ∙ sym (fails b (λ t. never_both (g t) e)))

-- what the answer r of a test b, negated, says of b
pub failed : {r b : Bool} → r ≡ b → not r ≡ true → b ≡ false
failed e h = sym e ∙ not-true _ h

pub passed : {r b : Bool} → r ≡ b → not r ≡ false → b ≡ true
passed e h = sym e ∙ not-false _ h

pub negated : {r b x : Bool} → r ≡ b → not r ≡ x → not b ≡ x
negated e h = sym (ap not e) ∙ h

pub and_both : (a b : Bool) → a ≡ true → b ≡ true → (a && b) ≡ true
and_both a b p q = rw (p, q)

pub and_left : (a b : Bool) → (a && b) ≡ true → a ≡ true
and_left true b h = refl
and_left false b h = h

pub and_right : (a b : Bool) → (a && b) ≡ true → b ≡ true
and_right true b h = h
and_right false b h = absurd (true≢false (sym h))

pub and_fails_left : (a b : Bool) → a ≡ false → (a && b) ≡ false
and_fails_left a b h = rw h

pub or_left : (a b : Bool) → a ≡ true → (a || b) ≡ true
or_left a b h = rw h

pub or_right : (a b : Bool) → b ≡ true → (a || b) ≡ true
or_right true b h = refl
or_right false b h = h

pub or-none : (a b : Bool) → (a || b) ≡ false → (a ≡ false) × (b ≡ false)
or-none true b h = absurd (true≢false h)
or-none false b h = (refl, h)

pub or_cases : (a b : Bool) → (a || b) ≡ true → (a ≡ true) ⊎ (b ≡ true)
or_cases true b h = inl refl
or_cases false b h = inr h

pub eqb_self : (x : ℕ) → eqb x x ≡ true
eqb_self x = eq-eqb x x refl

pub eqb_comm : (x y : ℕ) → eqb x y ≡ eqb y x
eqb_comm x y = same_test (eqb x y) (eqb y x) (λ e. eq-eqb y x (sym (eqb-true x y e))) (λ e. eq-eqb x y (sym (eqb-true y x e)))
