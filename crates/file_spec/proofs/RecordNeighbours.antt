-- The neighbours that records give a bus: other buses of the network, ascending, where the ends are sound; and how many they may be.
use Rattle.std.specs.Prelude.{Bool, true, false, List, ◌≡◌, ℕ, ◌≤◌, ◌<◌, ltb, length}
use Rattle.std.proofs.Common.{⊎_elim, sym, ◌∙◌, arith}
use borrow.Author.Tests.{ltb-true, ltb-false, le-ltb}
use Rattle.lists.specs.Lists.{has}
use Rattle.lists.proofs.Tests.{split, fails}
use Rattle.lists.proofs.Loops.{any_below-none, any_below_fails}
use Rattle.lists.proofs.ListBelow.{count-list_below, has-list_below, list_below_in, list_below_ascends}
use Rattle.table_spec.specs.Limits.{max_degree}
use Rattle.table_spec.specs.Holds.{ValidRow}
use Rattle.file_spec.specs.Sections.{sound_ends}
use Rattle.file_spec.proofs.SoundSections.{ends_facts}
use Rattle.file_spec.specs.Records.{joined, neighbours, degree_too_high}
use Rattle.file_spec.proofs.RecordPairs.{joined_at}

module _ (n m : ℕ) (r : List ℕ) (sound : sound_ends n m r ≡ true) where
  -- who is joined is a bus, and another one
  joined_buses : (i j : ℕ) → joined m r i j ≡ true → (j < n) × (j ≡ i → ⊥)
  joined_buses i j h =
      let w = joined_at m r i j h in
      let e = ends_facts n m r sound w.0 w.1 in
      ⊎_elim
      (λ t. (omega (arith, e.1, t.1), λ z. e.2 (t.0 ∙ sym z ∙ sym t.1)))
      (λ t. (omega (arith, e.0, t.0), λ z. e.2 (t.0 ∙ z ∙ sym t.1)))
      w.2

  pub neighbours_valid : (i : ℕ) → ValidRow n i (neighbours n m r i)
  unfolding neighbours
  neighbours_valid i =
      record {
        below = λ k l. (list_below_in n (joined m r i) k l).0;
        others = λ k l. (joined_buses i _ (list_below_in n (joined m r i) k l).1).1;
        ascends = list_below_ascends n (joined m r i);
      }

  -- j stands in row i exactly if a record joins i and j
  pub neighbours-joined : (i j : ℕ) → has j (neighbours n m r i) ≡ joined m r i j
  unfolding neighbours
  neighbours-joined i j =
      split (ltb j n)
      (λ t. has-list_below (joined m r i) (ltb-true j n t))
      (λ t. rw (count-list_below j n (joined m r i), t) (sym (fails (joined m r i j) (λ h. omega (arith, ltb-false j n t, (joined_buses i j h).0)))))

-- ---- degrees

module _ (n m : ℕ) (r : List ℕ) where
  abbrev too_many : ℕ → Bool
  too_many b = ltb max_degree (length (neighbours n m r b))

  pub degrees_test : ((i : ℕ) → i < n → length (neighbours n m r i) ≤ max_degree) → degree_too_high n m r ≡ false
  unfolding degree_too_high
  degrees_test h = any_below_fails too_many n (λ i l. le-ltb max_degree (length (neighbours n m r i)) (h i l))

  pub neighbours-max-le : degree_too_high n m r ≡ false → (i : ℕ) → i < n → length (neighbours n m r i) ≤ max_degree
  unfolding degree_too_high
  neighbours-max-le h i l = ltb-false max_degree _ (any_below-none too_many n h l)
