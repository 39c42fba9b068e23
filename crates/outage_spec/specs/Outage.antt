-- The network without one of its lines, and what that changes.
-- Definitions only.
use Rattle.std.specs.Prelude.{cond, List, [], ◌∷◌, ℕ, eqb, ℤ}
use Rattle.lists.specs.Lists.{without}
use Rattle.signed.specs.Signed.{difference}
use Rattle.table_spec.specs.Layout.{bus_count, needs, weights, row, table_of}
use Rattle.table_spec.specs.Lines.{lower_end, upper_end}
use Rattle.share_spec.specs.Network.{Network, denominator}
use Rattle.share_spec.specs.Formula.{numerator_over}
use Rattle.two_way.specs.TwoWay.{network_of}

-- the buses that leave the row of bus i when the line between a and b goes out
abbrev pub leaving : ℕ → ℕ → ℕ → List ℕ
leaving a b i = cond (eqb i a) (b ∷ []) (cond (eqb i b) (a ∷ []) [])

-- the table without that line: the same buses, needs and weights, and the two ends out of each other's rows. A row lists a neighbour once, so that parallel
-- circuits go out together
unfoldable pub without_pair : List ℕ → ℕ → ℕ → List ℕ
without_pair t a b = table_of (bus_count t) (needs t) (weights t) (λ i. without (leaving a b i) (row t i))

-- without line k
abbrev pub without_line : List ℕ → ℕ → List ℕ
without_line t k = without_pair t (lower_end t k) (upper_end t k)

-- the change of bus v over L, where M has become of the network N: its numerator in M less its numerator in N
unfoldable pub change_over : Network → Network → ℕ → ℕ → ℤ
change_over N M L v = difference (numerator_over M L v) (numerator_over N L v)

-- over the L of N, the full network
abbrev pub change_of : Network → Network → ℕ → ℤ
change_of N M v = change_over N M (denominator N) v

-- the change of bus v when line k goes out
abbrev pub change : List ℕ → ℕ → ℕ → ℤ
change t k v = change_of (network_of t) (network_of (without_line t k)) v
