-- Rows with a number inserted, computed.
use Rattle.std.specs.Prelude.{[], ◌∷◌, map, ◌≡◌, refl}
use Rattle.sorted_row.specs.Insertion.{insert}

-- before, between, behind, and one that is there
inserted :
    map (λ x. insert x (3 ∷ 5 ∷ 8 ∷ [])) (1 ∷ 6 ∷ 9 ∷ 5 ∷ [])
    ≡ (1 ∷ 3 ∷ 5 ∷ 8 ∷ []) ∷ (3 ∷ 5 ∷ 6 ∷ 8 ∷ []) ∷ (3 ∷ 5 ∷ 8 ∷ 9 ∷ []) ∷ (3 ∷ 5 ∷ 8 ∷ []) ∷ []
unfolding insert
inserted = refl
