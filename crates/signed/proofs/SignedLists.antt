-- Laws of lists of signed numbers, and of a loop that stores them.
use Rattle.std.specs.Prelude.{cond, List, [], ◌∷◌, ◌++◌, ◌≡◌, refl, ℕ, zero, suc, ◌+◌, ◌-◌, ◌≤◌, ◌<◌, eqb, ltb, ℤ, pos, ◌+ℤ◌, set}
use Rattle.std.proofs.Common.{⊎_elim, ap₂, ◌∙◌, not-suc-le-zero, length-set, get_or-set_same, get_or-set_other}
use Rattle.std.proofs.Math.Path.{sym, ap}
use native.Mathlib.Omega.{arith}
use borrow.Author.Tests.{ltb-true, ltb-false, eqb-true, eqb-false}
use Rattle.std.proofs.Math.ListN.{length, get_or, drop, length-append, length-drop, get_or-append}
use Rattle.std.proofs.lemmas.List.{get_or_at}
use Rattle.std.proofs.Math.Seq.{get_or-drop, get_or-append-add, ext_get_or}
use Rattle.lists.proofs.Tests.{split}
use Rattle.lists.proofs.Loops.{last_or}
use Rattle.signed.specs.Signed.{total_below, signed_below, signed_at, Fronted}

pub length-signed_below : (n : ℕ) (f : ℕ → ℤ) → length (signed_below n f) ≡ n
unfolding signed_below
length-signed_below zero f = refl
length-signed_below (suc n) f = omega (arith, length-append (signed_below n f) (f n ∷ []), length-signed_below n f)

pub signed_below-at : (f : ℕ → ℤ) (n i : ℕ) → i < n → get_or (signed_below n f) i (pos 0) ≡ f i
unfolding signed_below
signed_below-at f zero i h = absurd (not-suc-le-zero h)
signed_below-at f (suc n) i h =
    ⊎_elim (λ e. rw e (get_or_at (signed_below n f) (f n) [] (pos 0) n (length-signed_below n f)))
    (λ l. get_or-append (signed_below n f) (f n ∷ []) (pos 0) i (omega (arith, length-signed_below n f)) ∙ signed_below-at f n i l) (last_or h)

pub signed_below-same : (f g : ℕ → ℤ) (n : ℕ) → ((i : ℕ) → i < n → f i ≡ g i) → signed_below n f ≡ signed_below n g
unfolding signed_below
signed_below-same f g zero h = refl
signed_below-same f g (suc n) h = ap₂ (λ l z. l ++ (z ∷ [])) (signed_below-same f g n (λ i l. h i (omega arith))) (h n (omega arith))

pub total_below-same : (f g : ℕ → ℤ) (n : ℕ) → ((i : ℕ) → i < n → f i ≡ g i) → total_below n f ≡ total_below n g
unfolding total_below
total_below-same f g zero h = refl
total_below-same f g (suc n) h =
    ap (λ z. z +ℤ f n) (total_below-same f g n (λ i l. h i (omega arith))) ∙ ap (λ z. total_below n g +ℤ z) (h n (omega arith))

-- ---- a loop that stores f 0, f 1, .. at the front of x

signed_at-set : (x : List ℤ) (j : ℕ) (z : ℤ) (v : ℕ) → j < length x → signed_at (set x j z) v ≡ cond (eqb v j) z (signed_at x v)
unfolding signed_at
signed_at-set x j z v l =
    split (eqb v j)
    (λ e. let q : v ≡ j = eqb-true v j e in rw e (rw q (get_or-set_same x j z (pos 0) l)))
    (λ e. rw e (get_or-set_other x j v z (pos 0) (eqb-false v j e)))

module _ (f : ℕ → ℤ) (x : List ℤ) where
  pub front-none : Fronted 0 f x x
  front-none = record { long = refl; front = λ v l. absurd (omega arith); rest = λ v l. refl }

  pub front-next : {n : ℕ} {y : List ℤ} {z : ℤ} → Fronted n f x y → n < length x → z ≡ f n → Fronted (n + 1) f x (set y n z)
  front-next {n} {y} {z} w l e =
      let m : n < length y = omega (arith, w.long) in
      record {
        long = length-set y n z ∙ w.long;
        front = λ v b. signed_at-set y n z v m ∙ split (eqb v n)
            (λ t. let q : v ≡ n = eqb-true v n t in rw (t, q) e)
            (λ t. let d : v ≡ n → ⊥ = eqb-false v n t in rw t (w.front v (omega (arith, d))));
        rest = λ v b. signed_at-set y n z v m ∙ split (eqb v n)
            (λ t. let q : v ≡ n = eqb-true v n t in absurd (omega arith))
            (λ t. rw t (w.rest v (omega arith)));
      }

-- so y is that list, and behind it the rest of x
module _ (n : ℕ) (f : ℕ → ℤ) (x y : List ℤ) (w : Fronted n f x y) (h : n ≤ length x) where
  abbrev vs : List ℤ
  vs = signed_below n f

  pub front_list : y ≡ vs ++ drop n x
  unfolding signed_at
  front_list =
      let e = length-signed_below n f in
      ext_get_or (pos 0) y (vs ++ drop n x) (omega (arith, w.long, length-append vs (drop n x), e, length-drop n x)) λ i m.
      split (ltb i n)
      (λ t. let l = ltb-true i n t in w.front i l ∙ sym (get_or-append vs (drop n x) (pos 0) i (omega (arith, e)) ∙ signed_below-at f n i l))
      (λ t. let g = ltb-false i n t in
      let j = i - n in
      let p : length vs + j ≡ i = omega (arith, e) in
      let q : n + j ≡ i = omega arith in
      w.rest i g
      ∙ sym (ap (λ k. get_or (vs ++ drop n x) k (pos 0)) (sym p) ∙ get_or-append-add vs (drop n x) j (pos 0) ∙ get_or-drop n x j (pos 0) ∙ ap (λ k. get_or x k (pos 0)) q))
