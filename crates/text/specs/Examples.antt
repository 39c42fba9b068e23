-- Numbers and a template, computed.
use Rattle.std.specs.Prelude.{[], ◌∷◌, map, ◌≡◌, refl, pos, negsuc}
use Rattle.lists.specs.Lists.{at}
use Rattle.text.specs.Text.{decimal, signed_decimal, filled}

-- `0`, `7`, `10`, `405` and `61796724990`
numbers :
    map decimal (0 ∷ 7 ∷ 10 ∷ 405 ∷ 61796724990 ∷ [])
    ≡ (48 ∷ []) ∷ (55 ∷ []) ∷ (49 ∷ 48 ∷ []) ∷ (52 ∷ 48 ∷ 53 ∷ []) ∷ (54 ∷ 49 ∷ 55 ∷ 57 ∷ 54 ∷ 55 ∷ 50 ∷ 52 ∷ 57 ∷ 57 ∷ 48 ∷ []) ∷ []
unfolding decimal
numbers = refl

-- `0`, `7`, `-1` and `-405`
signed-numbers :
    map signed_decimal (pos 0 ∷ pos 7 ∷ negsuc 0 ∷ negsuc 404 ∷ [])
    ≡ (48 ∷ []) ∷ (55 ∷ []) ∷ (45 ∷ 49 ∷ []) ∷ (45 ∷ 52 ∷ 48 ∷ 53 ∷ []) ∷ []
unfolding signed_decimal decimal
signed-numbers = refl

-- `#/#` with 4 and 3 is `4/3`, and `#,` with 12 is `12,`
templates :
    (filled (35 ∷ 47 ∷ 35 ∷ []) (4 ∷ 3 ∷ []) ≡ 52 ∷ 47 ∷ 51 ∷ [])
    × (filled (35 ∷ 44 ∷ []) (12 ∷ []) ≡ 49 ∷ 50 ∷ 44 ∷ [])
unfolding filled decimal at
templates = (refl, refl)
