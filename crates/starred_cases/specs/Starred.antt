-- The scope's starred bench cases in one table: what each asks, and what is due.
-- Definitions only.
use mathlib.Core.List.{List, [], ◌∷◌, ◌++◌, flat_map}
use Rattle.std.specs.Prelude.{ℕ, length, take, replicate}
use Rattle.refusals.specs.Outcomes.{Outcome, gives, refuses}
use Rattle.fraction.specs.Cancel.{cancel_outcome}
use Rattle.read_spec.specs.ReadOutcome.{read_outcome, table_after}
use Rattle.two_way.specs.TwoWay.{network_of}
use Rattle.share_spec.specs.ShareOutcomes.{shares_outcome, numerators_after}

-- ---- what a case asks, and what the definitions of the calls answer

-- the shares of the network in a file; or a fraction cancelled
pub data Asked : Type 0 where
  scored : List ℕ → Asked
  cancelled : ℕ → ℕ → Asked

-- numerators, and what they are over
abbrev pub Answer : Type 0
Answer = Outcome (List ℕ × ℕ)

infix 45 ◌over◌
abbrev pub ◌over◌ : List ℕ → ℕ → Answer
numerators over L = gives (numerators, L)

-- what the first call gives goes to the next; where the first is refused, that is the answer
abbrev pub and_then : {A B : Type 0} → Outcome A → (A → Outcome B) → Outcome B
and_then (gives values) next = next values
and_then (refuses number) next = refuses number

-- what is lent, enough for the largest of these networks: three buses, three lines
unfoldable pub lent_table : List ℕ
lent_table = replicate 17 0

unfoldable pub lent_numerators : List ℕ
lent_numerators = replicate 3 0

-- Shares of a table with n buses: the n numerators that it stores, over the L that it gives
unfoldable pub shares_of : List ℕ → ℕ → Answer
shares_of t n = and_then (shares_outcome (network_of t) (length lent_numerators)) (λ L. take n (numerators_after (network_of t) lent_numerators) over L)

-- Read and then Shares; or Cancel
unfoldable pub answered : Asked → Answer
answered (scored f) = and_then (read_outcome f (length lent_table)) (λ c. shares_of (table_after f lent_table) c.buses)
answered (cancelled a b) = and_then (cancel_outcome a b) (λ p. (p.0 ∷ []) over p.1)

-- ---- the files

-- a file of fewer than 256 buses and lines: the needs, bus 0 first, and the two ends of each line
unfoldable pub file : List ℕ → List (ℕ × ℕ) → List ℕ
file needs lines = (length needs ∷ 0 ∷ needs) ++ (length lines ∷ 0 ∷ flat_map (λ l. l.0 ∷ 0 ∷ l.1 ∷ 0 ∷ []) lines)

-- Path, with need k at bus 1
unfoldable pub path : ℕ → List ℕ
path k = file (1 ∷ k ∷ 1 ∷ []) ((0, 1) ∷ (1, 2) ∷ [])

-- a line between any two of three buses, needs k
unfoldable pub triangle : ℕ → List ℕ
triangle k = file (k ∷ k ∷ k ∷ []) ((0, 1) ∷ (0, 2) ∷ (1, 2) ∷ [])

-- ---- the table

-- what is asked, and what is due
pub record Case : Type 0 where
  pub asked : Asked
  pub due : Answer

infix 40 ◌is◌
abbrev pub ◌is◌ : Asked → Answer → Case
a is d = record { asked = a; due = d }

unfoldable pub starred : List Case
starred =
    -- one bus without lines
    (scored (file (1 ∷ []) []) is (1 ∷ []) over 1)
    -- the same with need 24, which cannot be met
    ∷ (scored (file (24 ∷ []) []) is refuses 17)
    -- two joined buses
    ∷ (scored (file (1 ∷ 1 ∷ []) ((0, 1) ∷ [])) is (2 ∷ 2 ∷ []) over 2)
    -- Path
    ∷ (scored (path 1) is (5 ∷ 8 ∷ 5 ∷ []) over 6)
    -- Path whose middle bus needs both neighbours
    ∷ (scored (path 2) is (4 ∷ 10 ∷ 4 ∷ []) over 6)
    -- Path whose middle bus needs more than it has
    ∷ (scored (path 3) is refuses 17)
    -- the triangle, needs 1 and needs 2
    ∷ (scored (triangle 1) is (6 ∷ 6 ∷ 6 ∷ []) over 6)
    ∷ (scored (triangle 2) is (6 ∷ 6 ∷ 6 ∷ []) over 6)
    -- a fraction and a zero cancelled
    ∷ (cancelled 8 6 is (4 ∷ []) over 3)
    ∷ (cancelled 0 5 is (0 ∷ []) over 1)
    -- Path without its last byte
    ∷ (scored (take 14 (path 1)) is refuses 1)
    ∷ []
