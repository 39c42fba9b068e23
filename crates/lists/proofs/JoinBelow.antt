-- Laws of lists over the numbers below a bound: their lengths, their entries, and where each list of those joined stands.
use Rattle.std.specs.Prelude.{List, [], ◌∷◌, ◌++◌, map, ◌≡◌, refl, ℕ, zero, suc, ◌+◌, ◌*◌, ◌≤◌, ◌<◌, length, take, drop}
use Rattle.std.proofs.lemmas.List.{map-append, get_or_at}
use Rattle.std.proofs.Common.{append_assoc, append-nil, ⊎_elim, sym, ap, ap₂, subst, ◌∙◌, not-suc-le-zero, le_of_suc-le-suc, eq-or-lt_of_le, add-zero, add-suc, mul-one, zero-mul, suc-mul, arith, length-append, length-drop, take-append-drop, take_at, drop_at, length-take-le, ext_get_or}
use Rattle.std.proofs.Math.ListN.{get_or-append}
use Rattle.lists.specs.Lists.{◌∈◌, at, Ascending}
use Rattle.lists.specs.Below.{sum_below, join_below, map_below, range}
use Rattle.lists.proofs.Sums.{sum_by_ones}
use Rattle.lists.proofs.Places.{at_take, at-append, at-behind, at_drop, in_at, at_in}
use Rattle.lists.proofs.Loops.{last_or}
use Rattle.lists.proofs.SumsBelow.{sum_by-join_below, sum_below-same, sum_below_grows, sum_below-next-le, sum_below_const}

pub length-join_below : (n : ℕ) (f : ℕ → List ℕ) → length (join_below n f) ≡ sum_below n (λ i. length (f i))
length-join_below n f =
    sym (sum_by_ones (join_below n f)) ∙ sum_by-join_below (λ x. 1) n f ∙ sum_below-same _ _ n (λ i l. sum_by_ones (f i))

pub length-map_below : (n : ℕ) (f : ℕ → ℕ) → length (map_below n f) ≡ n
unfolding map_below
length-map_below n f = length-join_below n (λ i. f i ∷ []) ∙ sum_below_const 1 n ∙ mul-one n

pub length-range : (n : ℕ) → length (range n) ≡ n
length-range n = length-map_below n (λ i. i)

pub length-join_below-le : (f : ℕ → List ℕ) {i : ℕ} (n : ℕ) → i ≤ n → length (join_below i f) ≤ length (join_below n f)
length-join_below-le f {i} n h = rw (length-join_below i f, length-join_below n f) (sum_below_grows (λ i. length (f i)) n h)

-- the first of them, then the others
pub join_below-first : (n : ℕ) (f : ℕ → List ℕ) → join_below (suc n) f ≡ f 0 ++ join_below n (λ i. f (suc i))
unfolding join_below
join_below-first zero f = sym (append-nil (f 0))
join_below-first (suc n) f = ap (λ l. l ++ f (suc n)) (join_below-first n f) ∙ append_assoc (f 0) _ _

-- those of the first a numbers, then those of the b numbers from there on
pub join_below-add : (a b : ℕ) (f : ℕ → List ℕ) → join_below (a + b) f ≡ join_below a f ++ join_below b (λ j. f (a + j))
unfolding join_below
join_below-add a zero f = ap (λ n. join_below n f) (add-zero a) ∙ sym (append-nil (join_below a f))
join_below-add a (suc b) f =
    ap (λ n. join_below n f) (add-suc a b) ∙ ap (λ l. l ++ f (a + b)) (join_below-add a b f) ∙ append_assoc (join_below a f) _ _

-- so the lists of n times k numbers are n times those of k
pub join_below-times : (n k : ℕ) (f : ℕ → List ℕ) → join_below (n * k) f ≡ join_below n (λ i. join_below k (λ j. f (i * k + j)))
unfolding join_below
join_below-times zero k f = ap (λ m. join_below m f) (zero-mul k)
join_below-times (suc n) k f =
    ap (λ m. join_below m f) (suc-mul n k) ∙ join_below-add (n * k) k f ∙ ap (λ l. l ++ join_below k (λ j. f (n * k + j))) (join_below-times n k f)

-- and those of more numbers the same, where they have none
pub join_below_more : (f : ℕ → List ℕ) (n k : ℕ) → n ≤ k → ((i : ℕ) → n ≤ i → f i ≡ []) → join_below k f ≡ join_below n f
unfolding join_below
join_below_more f n zero l h = let e : n ≡ 0 = omega arith in rw e
join_below_more f n (suc k) l h =
    ⊎_elim (λ e. rw e)
    (λ g. ap₂ ◌++◌ (join_below_more f n k (le_of_suc-le-suc g) h) (h k (le_of_suc-le-suc g)) ∙ append-nil (join_below n f)) (eq-or-lt_of_le l)

-- lists of what agrees below n agree
pub join_below-same : (f g : ℕ → List ℕ) (n : ℕ) → ((i : ℕ) → i < n → f i ≡ g i) → join_below n f ≡ join_below n g
unfolding join_below
join_below-same f g zero h = refl
join_below-same f g (suc n) h = ap₂ ◌++◌ (join_below-same f g n (λ i l. h i (omega arith))) (h n (omega arith))

-- lists joined over the entries of a list, which is two
pub join_below-append : (g : ℕ → List ℕ) (l m : List ℕ) → join_below (length (l ++ m)) (λ k. g (at (l ++ m) k)) ≡ join_below (length l) (λ k. g (at l k)) ++ join_below (length m) (λ k. g (at m k))
join_below-append g l m =
    ap (λ n. join_below n (λ k. g (at (l ++ m) k))) (length-append l m)
    ∙ join_below-add (length l) (length m) _
    ∙ ap₂ ◌++◌ (join_below-same _ _ (length l) (λ k h. ap g (at-append l m k h))) (join_below-same _ _ (length m) (λ k h. ap g (at-behind l m k)))

pub map_below-same : (f g : ℕ → ℕ) (n : ℕ) → ((i : ℕ) → i < n → f i ≡ g i) → map_below n f ≡ map_below n g
unfolding map_below
map_below-same f g n h = join_below-same _ _ n (λ i l. ap (λ x. x ∷ []) (h i l))

-- list i of those joined stands where the lists before it end
pub join_below-at : (f : ℕ → List ℕ) (n : ℕ) (rest : List ℕ) {i : ℕ} → i < n
    → take (length (f i)) (drop (length (join_below i f)) (join_below n f ++ rest)) ≡ f i
unfolding join_below
join_below-at f zero rest h = absurd (not-suc-le-zero h)
join_below-at f (suc n) rest {i} h =
    ap (λ l. take (length (f i)) (drop (length (join_below i f)) l)) (append_assoc (join_below n f) (f n) rest)
    ∙ ⊎_elim
    (λ e. rw e (ap (take (length (f n))) (drop_at (join_below n f) (f n ++ rest) (length (join_below n f)) refl) ∙ take_at (f n) rest (length (f n)) refl))
    (λ l. join_below-at f n (f n ++ rest) l) (last_or h)

-- so do its entries
pub at-join_below : (f : ℕ → List ℕ) (n : ℕ) {i : ℕ} → i < n → (j : ℕ) → j < length (f i) → at (join_below n f) (length (join_below i f) + j) ≡ at (f i) j
at-join_below f n {i} h j b =
    let s = length (join_below i f) in
    sym (at_take (length (f i)) (drop s (join_below n f)) j b ∙ at_drop s (join_below n f) j)
    ∙ ap (λ l. at l j) (ap (λ l. take (length (f i)) (drop s l)) (sym (append-nil (join_below n f))) ∙ join_below-at f n [] h)

-- and a list in which each of them stands there, entry by entry, and nothing else, is the lists joined
pub join_below_by : (sizes : ℕ → ℕ) (f : ℕ → List ℕ) (n : ℕ) {l : List ℕ} → ((i : ℕ) → i < n → length (f i) ≡ sizes i) → length l ≡ sum_below n sizes
    → ((i j : ℕ) → i < n → j < length (f i) → at l (sum_below i sizes + j) ≡ at (f i) j) → l ≡ join_below n f
unfolding at join_below sum_below
join_below_by sizes f zero {l} e s h = ext_get_or 0 l [] s (λ j b. absurd (omega arith))
join_below_by sizes f (suc n) {l} e s h =
    let k = sum_below n sizes in
    sym (take-append-drop k l)
    ∙ ap₂ ◌++◌
    (join_below_by sizes f n {l = take k l} (λ i b. e i (omega arith)) (length-take-le k l (omega arith))
    (λ i j b c. at_take k l _ (omega (arith, e i (omega arith), sum_below-next-le sizes n b)) ∙ h i j (omega arith) c))
    (ext_get_or 0 (drop k l) (f n) (length-drop k l ∙ omega (arith, e n (omega arith)))
    (λ j b. at_drop k l j ∙ h n j (omega arith) (omega (arith, length-drop k l, e n (omega arith)))))

pub map_below-at : (f : ℕ → ℕ) (n : ℕ) {i : ℕ} → i < n → at (map_below n f) i ≡ f i
unfolding at map_below join_below
map_below-at f zero h = absurd (not-suc-le-zero h)
map_below-at f (suc n) {i} h =
    ⊎_elim (λ e. rw e (get_or_at (map_below n f) (f n) [] 0 n (length-map_below n f)))
    (λ l. get_or-append (map_below n f) (f n ∷ []) 0 i (omega (arith, length-map_below n f)) ∙ map_below-at f n l) (last_or h)

pub map_range : (f : ℕ → ℕ) (n : ℕ) → map f (range n) ≡ map_below n f
unfolding map_below join_below
map_range f zero = refl
map_range f (suc n) = map-append f (range n) (n ∷ []) ∙ ap (λ l. l ++ (f n ∷ [])) (map_range f n)

-- a list is its entries
pub map_below-entries : (l : List ℕ) → map_below (length l) (at l) ≡ l
unfolding at
map_below-entries l =
    let e = length-map_below (length l) (at l) in
    ext_get_or 0 (map_below (length l) (at l)) l e (λ i h. map_below-at (at l) (length l) (omega arith))

-- values that rise make a list that ascends
pub map_below_ascends : (f : ℕ → ℕ) (n : ℕ) → ((j k : ℕ) → j < k → k < n → f j < f k) → Ascending (map_below n f)
map_below_ascends f n h j k a b =
    let l : k < n = omega (arith, length-map_below n f) in omega (arith, map_below-at f n {i = j} (omega arith), map_below-at f n l, h j k a l)

pub in_map_below : (f : ℕ → ℕ) (n : ℕ) {i : ℕ} → i < n → f i ∈ map_below n f
in_map_below f n {i} l =
    subst (λ x. x ∈ map_below n f) (map_below-at f n l) (in_at (map_below n f) i (omega (arith, length-map_below n f)))

pub of_map_below : (f : ℕ → ℕ) (n x : ℕ) → x ∈ map_below n f → (i : ℕ) × (i < n) × (f i ≡ x)
of_map_below f n x m =
    let w = at_in x (map_below n f) m in
    let l : w.0 < n = omega (arith, w.1, length-map_below n f) in
    (w.0, l, sym (map_below-at f n l) ∙ w.2)
