-- Laws of the weights that the bytes of a section give n buses: two bytes for each, or none, and all weights are 1.
use Rattle.std.specs.Prelude.{true, List, [], ◌∷◌, ◌≡◌, refl, ℕ, ◌+◌, ◌*◌, ◌≤◌, ◌<◌, length}
use Rattle.std.proofs.Math.Path.{ap, ap₂}
use Rattle.std.proofs.Common.{◌∙◌, arith, eq-eqb, ne_eqb, length-take, length-drop}
use Rattle.lists.specs.Lists.{at, part}
use Rattle.lists.specs.Below.{all_below, map_below}
use Rattle.lists.proofs.Loops.{all_below_by, all_below-same}
use Rattle.lists.proofs.Places.{length_part}
use Rattle.lists.proofs.JoinBelow.{length-map_below, map_below-at}
use Rattle.table_spec.specs.Limits.{max_weight}
use Rattle.table_spec.specs.Holds.{within, in_range, weights_in_range}
use Rattle.table_spec.proofs.Facts.{within-test}
use Rattle.file_spec.specs.FileBytes.{word_at, file_bus_count, records_end, weights_at, weights_end, weight_bytes, weight_in, file_weights}

module _ (b : List ℕ) where
  pub weight-none : length b ≡ 0 → (i : ℕ) → weight_in b i ≡ 1
  unfolding weight_in
  weight-none e i = rw (eq-eqb (length b) 0 e)

  pub weight-word : 0 < length b → (i : ℕ) → weight_in b i ≡ word_at b (2 * i)
  unfolding weight_in
  weight-word h i = rw (ne_eqb (length b) 0 (omega arith))

  -- they are in range exactly if each is
  pub weights-range : (n : ℕ) → weights_in_range (map_below n (weight_in b)) ≡ all_below n (λ i. within 1 max_weight (weight_in b i))
  unfolding in_range
  weights-range n =
      ap (λ k. all_below k (λ i. within 1 max_weight (at (map_below n (weight_in b)) i))) (length-map_below n (weight_in b))
      ∙ all_below-same _ _ n (λ i l. ap (within 1 max_weight) (map_below-at (weight_in b) n l))

  -- as they are where there are no bytes
  pub ones_range : length b ≡ 0 → (n : ℕ) → weights_in_range (map_below n (weight_in b)) ≡ true
  ones_range e n = weights-range n ∙ all_below_by _ n (λ i l. rw (weight-none e i) (within-test 1 max_weight 1 (omega arith) (omega arith)))

no_entries : (l : List ℕ) → length l ≡ 0 → l ≡ []
no_entries [] e = refl
no_entries (x ∷ l) e = absurd (omega arith)

-- how many bytes a file has for them
module _ (f : List ℕ) where
  pub weight_bytes-none : length f ≤ weights_at f → weight_bytes f ≡ []
  unfolding weight_bytes
  weight_bytes-none h = no_entries _ (simp (length-take, length-drop) (omega arith))

  pub length-weight_bytes : weights_end f ≤ length f → length (weight_bytes f) ≡ 2 * file_bus_count f
  unfolding weight_bytes
  length-weight_bytes h = omega (arith, length_part (weights_at f) (weights_end f) f h)

  -- and what they are, as code reads them: the bus count into n and the place where the records end into e
  pub weights-read : {n e : ℕ} → n ≡ file_bus_count f → e ≡ records_end f → map_below n (weight_in (part (e + 2) (e + 2 + 2 * n) f)) ≡ file_weights f
  unfolding weight_bytes
  weights-read p q = ap₂ (λ n e. map_below n (weight_in (part (e + 2) (e + 2 + 2 * n) f))) p q
