-- The lines of a network's share sheet. Definitions only.
use Rattle.std.specs.Prelude.{List, [], ◌∷◌, ℕ, zero, suc}
use Rattle.text.specs.Text.{filled}
use Rattle.fraction.specs.Cancel.{cancelled}
use Rattle.share_spec.specs.Network.{Network, denominator}
use Rattle.share_spec.specs.Formula.{numerator}

-- `buses # lines # over #`, ended by byte 10
abbrev pub heading_form : List ℕ
heading_form =
    98 ∷ 117 ∷ 115 ∷ 101 ∷ 115 ∷ 32 ∷ 35 ∷ 32 ∷ 108 ∷ 105 ∷ 110 ∷ 101 ∷ 115 ∷ 32 ∷ 35 ∷ 32 ∷ 111 ∷ 118 ∷ 101 ∷ 114 ∷ 32 ∷ 35 ∷ 10 ∷ []

-- n, m and L
abbrev pub heading_numbers : Network → List ℕ
heading_numbers N = N.buses ∷ N.lines ∷ denominator N ∷ []

-- `# # # # #/#`, ended by byte 10
abbrev pub bus_form : List ℕ
bus_form = 35 ∷ 32 ∷ 35 ∷ 32 ∷ 35 ∷ 32 ∷ 35 ∷ 32 ∷ 35 ∷ 47 ∷ 35 ∷ 10 ∷ []

-- bus, need, degree, numerator and the cancelled share
abbrev pub bus_numbers : Network → ℕ → List ℕ
bus_numbers N v =
    let share = cancelled (numerator N v) (denominator N) in
    v ∷ N.need_column v ∷ N.degree_column v ∷ numerator N v ∷ share.0 ∷ share.1 ∷ []

-- sheet line 0 is the heading; line i is that of bus i - 1
abbrev pub sheet_line : Network → ℕ → List ℕ
sheet_line N zero = filled heading_form (heading_numbers N)
sheet_line N (suc v) = filled bus_form (bus_numbers N v)
