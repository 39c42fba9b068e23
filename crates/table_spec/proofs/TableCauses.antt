-- How calls on a table come out, whatever values they give and whatever entries are lent.
use Rattle.std.specs.Prelude.{Bool, true, false, not, List, ◌∷◌, ◌≡◌, ℕ, ◌≤◌, ◌<◌, ltb}
use Rattle.std.proofs.Common.{ap, arith, le-ltb, lt-ltb}
use Rattle.refusals.specs.declared.Refusal.TheVariants.{NoSuchBus}
use Rattle.refusals.specs.Outcomes.{Outcome, refuses, Cause, ◌⇒◌}
use Rattle.refusals.specs.Due.{Due}
use Rattle.refusals.proofs.Due.{stop, pass}
use Rattle.table_spec.specs.TableOutcomes.{on_table}

module _ {A B : Type 0} {cs : List Cause} {values : A} {s x : B} where
  module _ {held : Bool} where
    -- a slice that holds no network is refused
    pub no_network : held ≡ false → Due (on_table held cs) values s x (refuses 11) x
    no_network h = stop (ap not h)

    -- where it holds one, the call's own causes decide
    pub on_held : {o : Outcome A} {y : B} → held ≡ true → Due cs values s x o y → Due (on_table held cs) values s x o y
    on_held h d = pass (ap not h) d

  -- the cause of a call on a bus of n; the bus count was read into m
  module _ {n m bus : ℕ} (e : m ≡ n) where
    pub no_bus : m ≤ bus → Due ((not (ltb bus n) ⇒ NoSuchBus) ∷ cs) values s x (refuses 13) x
    no_bus g = stop (ap not (le-ltb bus n (omega arith)))

    pub on_bus : {o : Outcome A} {y : B} → bus < m → Due cs values s x o y → Due ((not (ltb bus n) ⇒ NoSuchBus) ∷ cs) values s x o y
    on_bus g d = pass (ap not (lt-ltb bus n (omega arith))) d
