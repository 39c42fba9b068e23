-- Signed numbers, computed.
use Rattle.std.specs.Prelude.{[], ◌∷◌, ◌≡◌, refl, ◌-◌, ◌*◌, pos, negsuc}
use Rattle.signed.specs.Signed.{difference, total_below, signed_below, signed_at}

-- 5 less 3 is 2, 3 less 5 is -2, and 3 less 3 is 0
differences : (difference 5 3 ∷ difference 3 5 ∷ difference 3 3 ∷ []) ≡ pos 2 ∷ negsuc 1 ∷ pos 0 ∷ []
unfolding difference
differences = refl

-- 0 less 4, 1 less 2, 2 less 0: their list, their sum, and an entry past its end
listed :
    (signed_below 3 (λ k. difference k (4 - 2 * k)) ≡ negsuc 3 ∷ negsuc 0 ∷ pos 2 ∷ [])
    × (total_below 3 (λ k. difference k (4 - 2 * k)) ≡ negsuc 2)
    × (signed_at (negsuc 3 ∷ []) 1 ≡ pos 0)
unfolding signed_below total_below signed_at difference
listed = (refl, refl, refl)
