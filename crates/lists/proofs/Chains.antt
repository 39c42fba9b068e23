-- What `any`, `all` and `max` answer over a list or a range, as tests and the largest over the numbers below its length.
use Rattle.std.proofs.Common.{max, map, fold, unwrap_or, refl, [], ◌∷◌, Bool, ◌&&◌, ◌||◌, List, get_or, ◌≡◌, ℕ, zero, suc, ◌≤◌, length, take, sym, ap, ◌∙◌, arith, add-one}
use Rattle.std.proofs.Math.Seq.{take_all}
use Rattle.std.specs.List.{list_any, list_all, zip, range_with_len, reduce}
use Rattle.std.proofs.lemmas.List.Folds.{list_any_more, list_all_more}
use Rattle.std.proofs.lemmas.List.FromFn.{length-range_with_len, get_or-range_with_len, map-range_with_len_more}
use Rattle.std.proofs.lemmas.List.Sums.{fold-append}
use Rattle.std.proofs.lemmas.Slice.Zip.{length-zip, get_or-zip}
use Rattle.lists.specs.Lists.{at}
use Rattle.lists.specs.Below.{all_below, any_below, largest_below}
use Rattle.lists.proofs.Loops.{all_below_start, any_below_start, all_below-next, any_below-next, all_below-same, all_below-at, all_below_by}
use Rattle.lists.proofs.Tests.{same_test, and_both, and_left, and_right}

-- ---- over a list, or its front

pub any_front : (p : ℕ → Bool) (l : List ℕ) (n : ℕ) → n ≤ length l → list_any p (take n l) ≡ any_below n (λ i. p (at l i))
unfolding at
any_front p l zero h = sym (any_below_start _)
any_front p l (suc n) h =
    rw (← add-one n) (list_any_more p l n 0 (omega arith) ∙ ap (λ b. b || p (at l n)) (any_front p l n (omega arith)) ∙ sym (any_below-next n _))

module _ {A : Type 0} (p : A → Bool) (l : List A) (d : A) where
  all_front : (n : ℕ) → n ≤ length l → list_all p (take n l) ≡ all_below n (λ i. p (get_or l i d))
  all_front zero h = sym (all_below_start _)
  all_front (suc n) h =
      rw (← add-one n) (list_all_more p l n d (omega arith) ∙ ap (λ b. b && p (get_or l n d)) (all_front n (omega arith)) ∙ sym (all_below-next n _))

  pub all_list : list_all p l ≡ all_below (length l) (λ i. p (get_or l i d))
  all_list = ap (list_all p) (sym (take_all (length l) l (omega arith))) ∙ all_front (length l) (omega arith)

-- of two lists side by side, the second as long as the first or longer
pub all_zip : (p : ℕ × ℕ → Bool) (k l : List ℕ) → length k ≤ length l → list_all p (zip k l) ≡ all_below (length k) (λ i. p (at k i, at l i))
unfolding at
all_zip p k l h =
    let n : length (zip k l) ≡ length k = omega (arith, length-zip k l) in
    all_list p (zip k l) (0, 0)
    ∙ ap (λ m. all_below m (λ i. p (get_or (zip k l) i (0, 0)))) n
    ∙ all_below-same _ _ (length k) (λ i b. ap p (get_or-zip k l i (0, 0) b (omega arith)))

-- ---- over a range of numbers

pub all_range : (p : ℕ → Bool) (n : ℕ) → list_all p (range_with_len 0 n) ≡ all_below n p
all_range p n =
    all_list p (range_with_len 0 n) 0
    ∙ ap (λ m. all_below m (λ i. p (get_or (range_with_len 0 n) i 0))) (length-range_with_len 0 n)
    ∙ all_below-same _ p n (λ i b. let e : get_or (range_with_len 0 n) i 0 ≡ i = omega (arith, get_or-range_with_len 0 n i 0 b) in ap p e)

-- two tests at once
pub all_below-and : (p q : ℕ → Bool) (n : ℕ) → all_below n (λ i. p i && q i) ≡ (all_below n p && all_below n q)
all_below-and p q n =
    same_test _ _
    (λ w. and_both _ _ (all_below_by p n (λ i b. and_left (p i) (q i) (all_below-at _ n w b))) (all_below_by q n (λ i b. and_right (p i) (q i) (all_below-at _ n w b))))
    (λ w. all_below_by _ n (λ i b. and_both _ _ (all_below-at p n (and_left (all_below n p) _ w) b) (all_below-at q n (and_right (all_below n p) _ w) b)))

-- the largest of what a list has, and of what is made of a range
largest_list : (l : List ℕ) → unwrap_or (reduce max l) 0 ≡ fold max 0 l
largest_list [] = refl
largest_list (x ∷ l) = ap (λ a. fold max a l) (omega arith)

largest_map : (f : ℕ → ℕ) (n : ℕ) → fold max 0 (map f (range_with_len 0 n)) ≡ largest_below n f
unfolding largest_below
largest_map f zero = refl
largest_map f (suc n) =
    ap (λ k. fold max 0 (map f (range_with_len 0 k))) (sym (add-one n))
    ∙ ap (fold max 0) (map-range_with_len_more f 0 n n (omega arith))
    ∙ fold-append max 0 (map f (range_with_len 0 n)) (f n ∷ [])
    ∙ ap (λ m. max m (f n)) (largest_map f n)

pub largest_range : (f : ℕ → ℕ) (n : ℕ) → unwrap_or (reduce max (map f (range_with_len 0 n))) 0 ≡ largest_below n f
largest_range f n = largest_list (map f (range_with_len 0 n)) ∙ largest_map f n
