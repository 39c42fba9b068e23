-- The line of a bus, as code writes it.
use Rattle.std.specs.Prelude.{List, [], ◌∷◌, ℕ}

-- `# `
abbrev pub bus_form : List ℕ
bus_form = 35 ∷ 32 ∷ []
