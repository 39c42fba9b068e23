-- Slices that begin with the same table hold the same network, or both hold none.
use Rattle.std.specs.Prelude.{Bool, List, ◌++◌, ◌≡◌, ℕ, suc, ◌+◌, ◌≤◌, length}
use Rattle.std.proofs.Common.{ap, ap₂, ◌∙◌}
use Rattle.std.proofs.Math.Path.{fun_ext}
use Rattle.lists.specs.Lists.{has, at}
use Rattle.lists.specs.Below.{sum_below, count_below, largest_below, map_below}
use Rattle.table_spec.specs.Layout.{bus_count, needs, weights, entries, starts_at, row, lines}
use Rattle.table_spec.specs.Holds.{holds}
use Rattle.table_spec.specs.TableOutcomes.{SameNetwork}
use Rattle.table_spec.proofs.BeyondTable.{beyond}
use Rattle.share_spec.specs.Network.{Network}
use Rattle.share_spec.specs.TableNetwork.{largest_degree, divisors_of}
use Rattle.two_way.specs.TwoWay.{network_of}

-- a table's network, by its sections
abbrev made : Bool → ℕ → List ℕ → List ℕ → (ℕ → List ℕ) → Network
made held n q w rows = record {
  held = held;
  buses = n;
  lines = sum_below n (λ i. count_below i (λ j. has j (rows i)));
  need_column = at q;
  degree_column = λ i. length (rows i);
  game = record { watchers = rows; need = at q; weight = at w };
  watched = rows;
  divisors = map_below (1 + largest_below n (λ i. length (rows i))) suc;
}

-- so every call answers, stores and writes the same for both
pub same_network : {a b : List ℕ} → SameNetwork a b → network_of a ≡ network_of b
unfolding lines divisors_of largest_degree
same_network {a} {b} w =
    ap₂ (λ held n. made held n (needs a) (weights a) (row a)) w.judged w.sizes
    ∙ ap₂ (λ q v. made (holds b) (bus_count b) q v (row a)) w.needed w.weighed
    ∙ ap (made (holds b) (bus_count b) (needs b) (weights b)) (fun_ext w.rows)

-- ENTRIES BEYOND THE TABLE NEVER MATTER, x or y
pub beyond_network : (t x y : List ℕ) → entries (starts_at t) t ≤ length t → network_of (t ++ x) ≡ network_of (t ++ y)
beyond_network t x y w = same_network (beyond t x y w)
