-- A row whose numbers from a place on were copied one slot further.
use Rattle.std.proofs.Common.{List, [], ◌∷◌, ◌++◌, append_assoc, ◌≡◌, sym, ap, ap₂, ◌∙◌, ℕ, suc, ◌+◌, ◌-◌, ◌≤◌, ◌<◌, arith, length, set, take, drop, length-append, length-take, length-drop, length-take-le, take-take}
use Rattle.std.proofs.Math.Seq.{set_at, append_snoc}
use Rattle.std.proofs.lemmas.List.{drop-take}
use Rattle.std.specs.List.{copy_within}
use Rattle.lists.specs.Lists.{at, put}
use Rattle.lists.proofs.Places.{take_next}
use Rattle.lists.proofs.Writes.{put_front}
use Rattle.sorted_row.specs.Shifting.{insert_at}

module _ (row : List ℕ) {p count : ℕ} (h : p ≤ count) (room : count < length row) where
  -- the number at p stands twice
  copied : copy_within row p count (p + 1) ≡ take p row ++ (at row p ∷ (drop p (take count row) ++ drop (suc count) row))
  copied =
      let n = count - p in
      let end : p + n ≡ count = omega arith in
      let behind : p + 1 + n ≡ suc count = omega arith in
      let moved : take n (drop p row) ≡ drop p (take count row) = sym (drop-take p n row) ∙ ap (λ k. drop p (take k row)) end in
      append_assoc (take (p + 1) row) (take n (drop p row)) _
      ∙ ap₂ (λ a b. a ++ (b ++ drop (p + 1 + n) row)) (take_next p row (omega arith)) moved
      ∙ ap (λ k. (take p row ++ (at row p ∷ [])) ++ (drop p (take count row) ++ drop k row)) behind
      ∙ append_snoc (take p row) (at row p) _

  -- and x is written over the first of the two
  pub shifted : (x : ℕ) → set (copy_within row p count (p + 1)) p x ≡ put row 0 (insert_at (take count row) p x)
  unfolding insert_at
  shifted x =
      let l = take count row in
      let long : length (take p l ++ (x ∷ drop p l)) ≡ suc count = simp (length-append, length-take, length-drop) (omega arith) in
      ap (λ r. set r p x) copied
      ∙ set_at (take p row) _ _ x p (length-take-le p row (omega arith))
      ∙ sym
      (put_front row (insert_at l p x)
      ∙ ap (λ k. (take p l ++ (x ∷ drop p l)) ++ drop k row) long
      ∙ append_assoc (take p l) (x ∷ drop p l) _
      ∙ ap (λ f. f ++ (x ∷ (drop p l ++ drop (suc count) row))) (take-take p count row h))
