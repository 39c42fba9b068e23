-- What the outage study answers and stores, for every slice and line number, and what its changes come to.
-- Definitions only.
use Rattle.std.specs.Prelude.{true, false, not, ◌&&◌, ◌||◌, List, [], ◌∷◌, ◌++◌, ◌≡◌, ℕ, ◌≤◌, ◌<◌, eqb, ltb, ℤ, pos, ◌*ℤ◌, length, drop}
use Rattle.lists.specs.Lists.{sum_by, has}
use Rattle.lists.specs.Below.{range}
use Rattle.signed.specs.Signed.{difference, total_below, signed_below, signed_at}
use Rattle.refusals.specs.declared.Refusal.TheVariants.{NumeratorsTooShort, NoSuchLine}
use Rattle.refusals.specs.Outcomes.{Outcome, gives, Cause, ◌⇒◌, outcome, values_or}
use Rattle.game.specs.Orders.{orders, factorial, EveryOrderOnce}
use Rattle.game.specs.Game.{gain}
use Rattle.table_spec.specs.Layout.{bus_count, row, need, weight, starts, neighbour_numbers, starts_at, lines}
use Rattle.table_spec.specs.Holds.{holds, Scorable, Mirrored}
use Rattle.table_spec.specs.Lines.{lower_end, upper_end}
use Rattle.table_spec.specs.TableOutcomes.{on_table}
use Rattle.share_spec.specs.Network.{Network, denominator}
use Rattle.share_spec.specs.Formula.{CommonDenominator}
use Rattle.two_way.specs.TwoWay.{network_of}
use Rattle.outage_spec.specs.Outage.{without_line, change}

-- ---- the call

-- the line number is not below the number of pairs; fewer than n entries are lent
abbrev pub study_causes : Network → ℕ → ℕ → List Cause
study_causes N line lent = on_table N.held ((not (ltb line N.lines) ⇒ NoSuchLine) ∷ (ltb lent N.buses ⇒ NumeratorsTooShort) ∷ [])

abbrev pub study_outcome : List ℕ → ℕ → ℕ → Outcome ℕ
study_outcome t line lent = outcome (study_causes (network_of t) line lent) (denominator (network_of t))

-- n changes, and behind them what entries that held x held there
unfoldable pub stored_changes : List ℕ → ℕ → List ℤ → List ℤ
stored_changes t line x = signed_below (bus_count t) (change t line) ++ drop (bus_count t) x

-- what entries that held x hold after the call: accepted, the changes are stored; refused, what they held
abbrev pub changes_after : List ℕ → ℕ → List ℤ → List ℤ
changes_after t line x = values_or x (outcome (study_causes (network_of t) line (length x)) (stored_changes t line x))

-- ---- what is promised of the changes

-- a pair of neighbours, the lower bus first
pub record Line (t : List ℕ) (a b : ℕ) : Type 0 where
  pub ascends : a < b
  pub inside : b < bus_count t
  pub joined : has b (row t a) ≡ true

-- a bus is neither an end of a line nor a neighbour of an end
pub record Far (t : List ℕ) (a b v : ℕ) : Type 0 where
  pub not_lower : v ≡ a → ⊥
  pub not-upper : v ≡ b → ⊥
  pub not_by_lower : has v (row t a) ≡ false
  pub not_by_upper : has v (row t b) ≡ false

-- the sum of v's gains over all orders of fitting the buses of a network
abbrev pub gains : Network → ℕ → ℕ
gains N v = sum_by (gain N.game (range N.buses) v) (orders (range N.buses))

-- a table's network is one that can be scored, and its lines run both ways; whether each need can be met is not asked
pub record CanBeScored (t : List ℕ) : Type 0 where
  pub shape : Scorable t
  pub mirrored : Mirrored (bus_count t) (starts (starts_at t) t) (neighbour_numbers (starts_at t) t)

-- s is t without the line from a to b: the same buses, needs and weights, and the same neighbours, but that the two ends are none of one another
pub record LineLost (t : List ℕ) (a b : ℕ) (s : List ℕ) : Type 0 where
  pub scored : CanBeScored s
  pub buses : bus_count s ≡ bus_count t
  pub needs : (i : ℕ) → need s i ≡ need t i
  pub weights : (i : ℕ) → weight s i ≡ weight t i
  pub neighbours : (i j : ℕ) → i < bus_count t → has j (row s i) ≡ (has j (row t i) && not ((eqb i a && eqb j b) || (eqb i b && eqb j a)))

-- the answer is the L of the full network, no refusal; line k is a line, and the network without it can be scored; each bus's entry, times n!, is L
-- times the sum of its gains over all orders without the line less that sum with it; entries add up to zero, and are zero far from the line
pub record FairStudy (t : List ℕ) (k : ℕ) (answer : Outcome ℕ) (entries : List ℤ) : Type 0 where
  pub L : ℕ
  pub given : answer ≡ gives L
  pub over : CommonDenominator (network_of t) L
  pub line : Line t (lower_end t k) (upper_end t k)
  pub weakened : LineLost t (lower_end t k) (upper_end t k) (without_line t k)
  pub every : EveryOrderOnce (bus_count t) (orders (range (bus_count t)))
  pub fair : (v : ℕ) → v < bus_count t → pos (factorial (bus_count t)) *ℤ signed_at entries v ≡ pos L *ℤ difference (gains (network_of (without_line t k)) v) (gains (network_of t) v)
  pub none : total_below (bus_count t) (signed_at entries) ≡ pos 0
  pub far : (v : ℕ) → v < bus_count t → Far t (lower_end t k) (upper_end t k) v → signed_at entries v ≡ pos 0

-- so it is for every line of every network of n buses that a slice holds, if n entries or more are lent
abbrev pub AllStudied : List ℕ → ℕ → ℕ → Outcome ℕ → List ℤ → Type 0
AllStudied t k lent answer entries = holds t ≡ true → k < lines t → bus_count t ≤ lent → FairStudy t k answer entries
