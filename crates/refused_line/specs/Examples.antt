-- Lines of refusals, computed.
use Rattle.std.specs.Prelude.{[], ◌∷◌, ◌≡◌, refl, length}
use Rattle.lists.specs.Lists.{at}
use Rattle.text.specs.Text.{decimal, filled}
use Rattle.refused_line.specs.RefusedLine.{refused_line, longest_refusal}

-- `refused 1` and `refused 18`, each ended by byte 10; no number of one byte has a longer line than 255
lines :
    (refused_line 1 ≡ 114 ∷ 101 ∷ 102 ∷ 117 ∷ 115 ∷ 101 ∷ 100 ∷ 32 ∷ 49 ∷ 10 ∷ [])
    × (refused_line 18 ≡ 114 ∷ 101 ∷ 102 ∷ 117 ∷ 115 ∷ 101 ∷ 100 ∷ 32 ∷ 49 ∷ 56 ∷ 10 ∷ [])
    × (length (refused_line 255) ≡ longest_refusal)
unfolding filled decimal at
lines = (refl, refl, refl)
