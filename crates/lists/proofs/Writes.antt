-- Laws of a list written into a slice.
use mathlib.Core.List.{List, [], ◌∷◌, ◌++◌, append_assoc}
use Rattle.std.specs.Prelude.{◌≡◌, ℕ, ◌+◌, ◌-◌, ◌≤◌, ◌<◌, ltb}
use Rattle.std.proofs.Math.Path.{refl, sym, ap, ap₂}
use Rattle.std.proofs.Common.{◌∙◌, le_refl, zero-add, add-zero, add_assoc, length-append, length-drop, take-append-drop, drop-cons, drop_at, drop-set-lt, take_all, ext_get_or, ltb-true, ltb-false}
use Rattle.std.proofs.Math.Nat.{add-suc}
use Rattle.std.proofs.Math.Numerals.{add-one}
use native.Mathlib.Omega.{arith}
use Rattle.std.proofs.Math.ListN.{length, set, take, drop, length-take}
use Rattle.std.proofs.Math.Seq.{append_snoc, set_at, take_at, drop-append-add, drop-drop, length-take-le}
use Rattle.std.proofs.lemmas.List.{take-set-le}
use Rattle.lists.specs.Lists.{at, part, Tabled, put, WrittenAt}
use Rattle.lists.specs.Below.{join_below, map_below}
use Rattle.lists.proofs.Tests.{split}
use Rattle.lists.proofs.Places.{at-append, at-behind, at_drop, part-append, take_next}
use Rattle.lists.proofs.Loops.{by_end, join_below-next}
use Rattle.lists.proofs.JoinBelow.{length-map_below, length-join_below-le, map_below-at}
use Rattle.lists.specs.Writes.{Copied}

-- what is written at the front, and behind it the rest as it was
pub put_front : (t vs : List ℕ) → put t 0 vs ≡ vs ++ drop (length vs) t
unfolding put
put_front t vs = ap (λ k. vs ++ drop k t) (zero-add (length vs))

pub put-none : (t : List ℕ) (i : ℕ) → put t i [] ≡ t
unfolding put
put-none t i = rw add-zero (take-append-drop i t)

module _ (t : List ℕ) (i : ℕ) (vs : List ℕ) where
  head_length : i ≤ length t → length (take i t ++ vs) ≡ i + length vs
  head_length h = length-append (take i t) vs ∙ ap (λ n. n + length vs) (length-take-le i t h)

  pub length-put : i + length vs ≤ length t → length (put t i vs) ≡ length t
  unfolding put
  length-put h = simp (length-append, length-take, length-drop) (omega arith)

  -- one entry more
  pub put_snoc : (x : ℕ) → i + length vs < length t → set (put t i vs) (i + length vs) x ≡ put t i (vs ++ (x ∷ []))
  unfolding put
  put_snoc x h =
      ap (λ l. set (take i t ++ (vs ++ l)) (i + length vs) x) (drop-cons t (i + length vs) 0 h)
      ∙ ap (λ l. set l (i + length vs) x) (sym (append_assoc (take i t) vs _))
      ∙ set_at (take i t ++ vs) _ _ x _ (head_length (omega arith))
      ∙ append_assoc (take i t) vs _
      ∙ ap (λ l. take i t ++ l) (sym (append_snoc vs x _))
      ∙ ap (λ n. take i t ++ ((vs ++ (x ∷ [])) ++ drop n t)) (sym (ap (λ n. i + n) (length-append vs (x ∷ []) ∙ add-one (length vs)) ∙ add-suc i (length vs)))

  -- what is written right behind joins it
  pub put-put : (ws : List ℕ) → i ≤ length t → put (put t i vs) (i + length vs) ws ≡ put t i (vs ++ ws)
  unfolding put
  put-put ws h =
      ap (λ l. take (i + length vs) l ++ (ws ++ drop (i + length vs + length ws) l)) (sym (append_assoc (take i t) vs (drop (i + length vs) t)))
      ∙ ap₂ (λ l k. l ++ (ws ++ k)) (take_at (take i t ++ vs) _ _ (head_length h)) rest
      ∙ append_assoc (take i t) vs _
      ∙ ap (λ l. take i t ++ l) (sym (append_assoc vs ws _))
      ∙ ap (λ n. take i t ++ ((vs ++ ws) ++ drop n t)) (add_assoc i (length vs) (length ws) ∙ sym (ap (λ n. i + n) (length-append vs ws)))
    where
      rest : drop (i + length vs + length ws) ((take i t ++ vs) ++ drop (i + length vs) t) ≡ drop (i + length vs + length ws) t
      rest =
          ap (λ n. drop (n + length ws) ((take i t ++ vs) ++ drop (i + length vs) t)) (sym (head_length h))
          ∙ drop-append-add (take i t ++ vs) (drop (i + length vs) t) (length ws)
          ∙ drop-drop (length ws) (i + length vs) t

  -- a store at the first place is written over
  pub put_over : (x : ℕ) → 0 < length vs → put (set t i x) i vs ≡ put t i vs
  unfolding put
  put_over x h = ap₂ (λ u v. u ++ (vs ++ v)) (take-set-le i t i x (le_refl i)) (drop-set-lt (i + length vs) t i x (omega arith))

  -- what was written is there, and what stands before and behind it stays
  pub part-put : i ≤ length t → part i (i + length vs) (put t i vs) ≡ vs
  unfolding put
  part-put h =
      let e : i + length vs - i ≡ length vs = omega arith in
      ap₂ take e (drop_at (take i t) _ i (length-take-le i t h)) ∙ take_at vs _ (length vs) refl

  pub part-put-before : (a e : ℕ) → e ≤ i → i ≤ length t → part a e (put t i vs) ≡ part a e t
  unfolding put
  part-put-before a e l h =
      let s = length-take-le i t h in
      part-append a e (take i t) _ (omega arith) ∙ sym (part-append a e (take i t) (drop i t) (omega arith)) ∙ ap (part a e) (take-append-drop i t)

  pub part-put-behind : (a e : ℕ) → i + length vs ≤ a → i ≤ length t → part a e (put t i vs) ≡ part a e t
  unfolding put
  part-put-behind a e l h =
      let d = a - (i + length vs) in
      let p : length (take i t ++ vs) + d ≡ a = omega (arith, head_length h) in
      let q : i + length vs + d ≡ a = omega arith in
      ap (take (e - a))
      (ap₂ drop (sym p) (sym (append_assoc (take i t) vs (drop (i + length vs) t)))
      ∙ drop-append-add (take i t ++ vs) (drop (i + length vs) t) d
      ∙ drop-drop d (i + length vs) t
      ∙ ap (λ n. drop n t) q)

-- written at the front, vs stands there entry by entry, and behind it the rest as it was
module _ (t vs : List ℕ) where
  pub at_front : (x : ℕ) → x < length vs → at (put t 0 vs) x ≡ at vs x
  at_front x h = ap (λ l. at l x) (put_front t vs) ∙ at-append vs _ x h

  pub behind-front : (x : ℕ) → length vs ≤ x → at (put t 0 vs) x ≡ at t x
  behind-front x h =
      let q : length vs + (x - length vs) ≡ x = omega arith in
      ap₂ at (put_front t vs) (sym q) ∙ at-behind vs _ (x - length vs) ∙ at_drop (length vs) t (x - length vs) ∙ ap (at t) q

-- so a list whose first n entries are f 0, f 1, .. up to f (n - 1), and whose others are t's, is t with these written at its front
pub put_tabled : (t : List ℕ) (n : ℕ) (f : ℕ → ℕ) {u : List ℕ} → n ≤ length t → length u ≡ length t → Tabled n f u
    → ((x : ℕ) → n ≤ x → at u x ≡ at t x) → u ≡ put t 0 (map_below n f)
unfolding at
put_tabled t n f {u} h e first rest =
    let vs = map_below n f in
    let long = length-map_below n f in
    ext_get_or 0 u (put t 0 vs) (e ∙ sym (length-put t 0 vs (omega arith)))
    (λ x l. split (ltb x n)
    (λ a. let b = ltb-true x n a in first x b ∙ sym (at_front t vs x (omega arith) ∙ map_below-at f n b))
    (λ a. let b = ltb-false x n a in rest x b ∙ sym (behind-front t vs x (omega arith))))

-- what was written at the front of t, up to place n, is the first n entries there
pub written-front : (vs t : List ℕ) {n : ℕ} {u : List ℕ} → WrittenAt vs 0 t n u → take n u ≡ vs
written-front vs t {n} w = ap (take n) (w.1 ∙ put_front t vs) ∙ take_at vs _ n (sym (w.0 ∙ zero-add (length vs)))

-- a loop that stores: so far vs stands in u from place i on, and j is the next place
module _ (t : List ℕ) (i : ℕ) (vs : List ℕ) {u : List ℕ} {j : ℕ} (w : u ≡ put t i vs) (e : j ≡ i + length vs) where
  pub stored-length : j ≤ length t → length u ≡ length t
  stored-length h = ap length w ∙ length-put t i vs (omega arith)

  pub stored_entry : (x : ℕ) → j < length t → set u j x ≡ put t i (vs ++ (x ∷ []))
  stored_entry x h = ap₂ (λ l n. set l n x) w e ∙ put_snoc t i vs x (omega arith)

  pub stored_list : (ws : List ℕ) → i ≤ length t → put u j ws ≡ put t i (vs ++ ws)
  stored_list ws h = ap₂ (λ l n. put l n ws) w e ∙ put-put t i vs ws h

pub written_none : (t : List ℕ) (i : ℕ) → WrittenAt [] i t i t
written_none t i = (sym (add-zero i), sym (put-none t i))

-- a store writes one entry
pub written_entry : (t : List ℕ) (i x : ℕ) → i < length t → WrittenAt (x ∷ []) i t (i + 1) (set t i x)
written_entry t i x h = (refl, stored_entry t i [] (sym (put-none t i)) (sym (add-zero i)) x h)

-- what is written right behind what was written joins it
pub written-append : (t : List ℕ) (i : ℕ) (vs ws : List ℕ) {u v : List ℕ} {j k : ℕ} → i ≤ length t → WrittenAt vs i t j u → WrittenAt ws j u k v → WrittenAt (vs ++ ws) i t k v
written-append t i vs ws h a b = (omega (arith, a.0, b.0, length-append vs ws), b.1 ∙ stored_list t i vs a.1 a.0 ws h)

-- a loop that writes the lists f 0, f 1, .. into t from place i on: so far k of them stand in u, and j is the place behind them
module _ (f : ℕ → List ℕ) (t : List ℕ) (i : ℕ) where
  pub written_start : WrittenAt (join_below 0 f) i t i t
  unfolding join_below
  written_start = written_none t i

  module _ {k j : ℕ} {u : List ℕ} (w : WrittenAt (join_below k f) i t j u) where
    -- code has the next list as x
    pub written_next : {x v : List ℕ} {r : ℕ} → i ≤ length t → x ≡ f k → WrittenAt x j u r v → WrittenAt (join_below (k + 1) f) i t r v
    written_next {x} h e s = rw (join_below-next k f, ← e) (written-append t i (join_below k f) x h w s)

    pub written_done : (n : ℕ) → k ≤ n → n ≤ k → WrittenAt (join_below n f) i t j u
    written_done n = by_end (λ m. WrittenAt (join_below m f) i t j u) w

    -- there is space for n of them
    module _ (n : ℕ) (h : i + length (join_below n f) ≤ length t) where
      pub written-length : k ≤ n → length u ≡ length t
      written-length b = stored-length t i (join_below k f) w.1 w.0 (omega (arith, w.0, length-join_below-le f n b))

      pub written_fits : {x : List ℕ} → k < n → x ≡ f k → j + length x ≤ length u
      written_fits b e =
          let more = ap length (join_below-next k f) ∙ length-append (join_below k f) (f k) in
          omega (arith, written-length (omega arith), w.0, ap length e, more, length-join_below-le f {i = k + 1} n (omega arith))

module _ (t : List ℕ) (i : ℕ) (l : List ℕ) where
  pub copied_none : Copied t i l t 0
  copied_none = (omega arith, sym (put-none t i))

  module _ {u : List ℕ} {k : ℕ} (w : Copied t i l u k) where
    next : i + k ≡ i + length (take k l)
    next = ap (λ n. i + n) (sym (length-take-le k l w.0))

    pub copied_length : i + length l ≤ length t → length u ≡ length t
    copied_length h = stored-length t i (take k l) w.1 next (omega (arith, w.0))

    pub copied_entry : {j : ℕ} → j ≡ i + k → i + length l ≤ length t → k < length l → Copied t i l (set u j (at l k)) (k + 1)
    copied_entry e h b =
        (omega arith, stored_entry t i (take k l) w.1 (e ∙ next) (at l k) (omega arith) ∙ ap (put t i) (sym (take_next k l b)))

    pub copied_all : length l ≤ k → u ≡ put t i l
    copied_all h = w.1 ∙ ap (put t i) (take_all k l h)

-- what takes the whole of a part stands in the list from the part's start on
pub put_whole : (t : List ℕ) (a : ℕ) {e : ℕ} (vs : List ℕ) → e ≡ a + length vs → take a t ++ (vs ++ drop (e - a) (drop a t)) ≡ put t a vs
unfolding put
put_whole t a {e} vs h =
    let q : e - a ≡ length vs = omega arith in ap (λ l. take a t ++ (vs ++ l)) (ap (λ k. drop k (drop a t)) q ∙ drop-drop (length vs) a t)
