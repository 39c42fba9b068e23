-- Laws of templates.
use Rattle.std.specs.Prelude.{List, [], ◌∷◌, ◌++◌, ◌≡◌, refl, ℕ, ◌+◌, ◌≤◌, ◌<◌, eqb, length, take, drop}
use Rattle.std.proofs.Common.{append_assoc, append-nil, sym, ap, ◌∙◌, zero-add, add-zero, arith, ne_eqb, length-append, take-append-drop, drop-drop}
use Rattle.lists.specs.Lists.{at, count}
use Rattle.lists.proofs.Tests.{split}
use Rattle.lists.proofs.Counts.{count-append}
use Rattle.lists.proofs.Places.{at_drop, take_next}
use Rattle.text.specs.Text.{decimal, sign, filled}
use Rattle.text.specs.Templates.{Step}

-- a template in two parts: the second takes the numbers that the first leaves
pub filled-append : (s t values : List ℕ) → filled (s ++ t) values ≡ filled s values ++ filled t (drop (count sign s) values)
unfolding filled
filled-append [] t values = refl
filled-append (byte ∷ s) t values =
    split (eqb sign byte)
    (λ e. rw e (ap (λ l. decimal (at values 0) ++ l) (filled-append s t (drop 1 values) ∙ ap (λ l. filled s (drop 1 values) ++ filled t l) (drop-drop (count sign s) 1 values)) ∙ sym (append_assoc (decimal (at values 0)) _ _)))
    (λ e. rw (e, zero-add) (ap (λ l. byte ∷ l) (filled-append s t values)))

-- a part of a template has no more bytes and numbers than the whole
module _ (t : List ℕ) (k : ℕ) where
  pub filled-le : (values : List ℕ) → length (filled (take k t) values) ≤ length (filled t values)
  filled-le values =
      let rest = filled (drop k t) (drop (count sign (take k t)) values) in
      let whole = ap length (sym (filled-append (take k t) (drop k t) values) ∙ ap (λ s. filled s values) (take-append-drop k t)) in
      omega (arith, length-append (filled (take k t) values) rest, whole)

  count-take-le : count sign (take k t) ≤ count sign t
  count-take-le = omega (arith, count-append sign (take k t) (drop k t), ap (count sign) (take-append-drop k t))

-- ---- templates of one byte

one-sign : (values : List ℕ) → filled (sign ∷ []) values ≡ decimal (at values 0)
unfolding filled
one-sign values = append-nil (decimal (at values 0))

one_byte : (b : ℕ) (values : List ℕ) → (b ≡ sign → ⊥) → filled (b ∷ []) values ≡ b ∷ []
unfolding filled
one_byte b values q = rw (ne_eqb sign b (λ e. q (sym e)))

-- ---- an iteration of a loop over a template: k of its bytes are passed, and the next number has place j

module _ (t values : List ℕ) (k : ℕ) {j : ℕ} (e : j ≡ count sign (take k t)) (l : k < length t) where
  step : (piece : List ℕ) (i : ℕ) → filled (at t k ∷ []) (drop j values) ≡ piece → i ≡ j + count sign (at t k ∷ []) → Step t values k piece i
  step piece i p q =
      let more =
      ap (λ s. filled s values) (take_next k t l)
      ∙ filled-append (take k t) (at t k ∷ []) values
      ∙ ap (λ n. filled (take k t) values ++ filled (at t k ∷ []) (drop n values)) (sym e)
      ∙ ap (λ s. filled (take k t) values ++ s) p in
      let long = ap length more ∙ length-append (filled (take k t) values) piece in
      record {
        text = more;
        bytes = long;
        room = omega (arith, long, filled-le t (k + 1) values);
        next = q ∙ ap (λ n. n + count sign (at t k ∷ [])) e ∙ sym (ap (count sign) (take_next k t l) ∙ count-append sign (take k t) (at t k ∷ []));
      }

  -- the byte, which was read into b, is a `#`: its number is there
  module _ {b : ℕ} (r : b ≡ at t k) (q : b ≡ sign) where
    pub sign_step : Step t values k (decimal (at values j)) (j + 1)
    sign_step =
        let s = sym r ∙ q in
        step (decimal (at values j)) (j + 1)
        (ap (λ b. filled (b ∷ []) (drop j values)) s ∙ one-sign (drop j values) ∙ ap decimal (at_drop j values 0 ∙ ap (at values) (add-zero j)))
        (ap (λ b. j + count sign (b ∷ [])) (sym s))

    pub sign_there : count sign t ≤ length values → j < length values
    sign_there h = omega (arith, sign_step.next, count-take-le t (k + 1))

  -- it is another
  pub byte_step : {b : ℕ} → b ≡ at t k → (b ≡ sign → ⊥) → Step t values k (b ∷ []) j
  byte_step {b} r q =
      step (b ∷ []) j
      (ap (λ b. filled (b ∷ []) (drop j values)) (sym r) ∙ one_byte b (drop j values) q)
      (sym (ap (λ b. j + count sign (b ∷ [])) (sym r) ∙ rw (ne_eqb sign b (λ e. q (sym e))) (add-zero j)))
