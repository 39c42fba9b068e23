-- An island may be taken alone, and taken out as a network with numbers of its own: shares and average gains stay.
use Rattle.std.specs.Prelude.{Bool, false, List, map, ◌≡◌, refl, ℕ, ◌+◌, ◌*◌, ◌<◌, eqb, length}
use Rattle.std.proofs.Math.Bool.{cond}
use Rattle.std.proofs.Math.Path.{sym, ap}
use Rattle.std.proofs.Common.{◌∙◌, mul-zero, arith, ne_eqb}
use Rattle.std.proofs.lemmas.List.{length-map}
use Rattle.lists.specs.Lists.{sum_by, ◌∈◌, has, at}
use Rattle.lists.specs.Below.{range}
use Rattle.lists.proofs.Tests.{split, fails, never_both, eqb_comm}
use Rattle.lists.proofs.Sums.{sum_by_cong}
use Rattle.lists.proofs.Counts.{in_has, has_in, has-none, none_has, in_map, sum_by_cong_in, sum_by-part}
use Rattle.lists.proofs.Places.{in_at, ascending_once}
use Rattle.lists.proofs.SumsBelow.{in_range_lem, of_range, range_once}
use Rattle.lists.proofs.JoinBelow.{length-range, map_range, map_below-entries}
use Rattle.lists.proofs.ListBelow.{has-list_below, of_list_below, list_below_ascends}
use Rattle.game.specs.Orders.{orders, factorial, before, Ignores}
use Rattle.game.specs.Game.{Game, gain, own, neighbour, numerator, GameOn, Common}
use Rattle.game.specs.Parts.{Island, Renumbered, taken_out}
use Rattle.game.proofs.Joining.{before_ignores, joining}
use Rattle.game.specs.Pivot.{pivot}
use Rattle.game.proofs.Pivot.{pivot_ignores, pivot_far}
use Rattle.game.proofs.Fairness.{gain-pivots, any_denominator}
use Rattle.game.proofs.Total.{total}
use Rattle.game.proofs.Renumbering.{renumbered_common, renumbered_numerator, renumbered_gains}

-- ---- alone

module _ (g : Game) (ps is : List ℕ) (on : GameOn ps g) (island : Island ps is g) where
  -- no watching crosses its edge
  unwatched : (u : ℕ) → u ∈ ps → (w : ℕ) → (has w is ≡ has u is → ⊥) → has w (g.watchers u) ≡ false
  unwatched u i w n = fails (has w (g.watchers u)) (λ t. n (island.uncrossed u i w (has_in w (g.watchers u) t)))

  pub island_on : GameOn is g
  island_on = record {
    once = island.once;
    needs = λ u i. on.needs u (island.inside u i);
    watchers_once = λ u i. on.watchers_once u (island.inside u i);
    watchers_inside = λ u i w m. has_in w is (island.uncrossed u (island.inside u i) w m ∙ in_has u is i);
    watchers_other = λ u i. on.watchers_other u (island.inside u i);
  }

  pub island_common : (L : ℕ) → Common ps g L → Common is g L
  island_common L common u i = common u (island.inside u i)

  -- a sum of what is 0 outside the island
  along_island : (F : ℕ → ℕ) → ((u : ℕ) → u ∈ ps → has u is ≡ false → F u ≡ 0) → sum_by F ps ≡ sum_by F is
  along_island F none =
      sum_by_cong_in ps (λ u i. split (has u is) (λ e. rw e) (λ e. rw e (none u i e)))
      ∙ sum_by-part F ps is on.once island.once island.inside

  apart : (u r : ℕ) → u ∈ is → has r is ≡ false → eqb u r ≡ false
  apart u r i e = ne_eqb u r (λ q. never_both (in_has u is i) (ap (λ x. has x is) q ∙ e))

  module _ (v : ℕ) (hv : v ∈ is) where
    -- v watches nobody outside
    outside : (u : ℕ) → u ∈ ps → has u is ≡ false → has v (g.watchers u) ≡ false
    outside u i e = unwatched u i v (λ q. never_both (in_has v is hv) (q ∙ e))

    -- the formula gives v the same share in the whole as in the island alone
    pub island_numerator : (L : ℕ) → numerator g ps v L ≡ numerator g is v L
    unfolding numerator
    island_numerator L =
        ap (λ n. own g L v + n) (along_island (λ u. cond (has v (g.watchers u)) (neighbour g L u) 0) (λ u i e. rw (outside u i e)))

    -- in every order v gains the same
    pub island_gain : (l : List ℕ) → gain g ps v l ≡ gain g is v l
    island_gain l =
        let s = before v l in
        gain-pivots g ps v l
        ∙ along_island (λ u. g.weight u * pivot g u v s) (λ u i e.
        ap (λ n. g.weight u * n) (pivot_far g u v s (eqb_comm u v ∙ apart v u hv e) (has-none v (g.watchers u) (outside u i e))) ∙ mul-zero (g.weight u))
        ∙ sym (gain-pivots g is v l)

    -- what v gains at the buses of the island, after recorders at s; who is outside does not matter to it
    gained : List ℕ → ℕ
    gained s = sum_by (λ u. g.weight u * pivot g u v s) is

    gained_ignores : (r : ℕ) → has r is ≡ false → Ignores r gained
    unfolding gained
    gained_ignores r e p s = sum_by_cong_in is (λ u i.
        ap (λ n. g.weight u * n) (pivot_ignores g u v r (apart u r i e)
        (has-none r (g.watchers u) (unwatched u (island.inside u i) r (λ q. never_both (q ∙ in_has u is i) e))) p s))

    -- so v's average gain over the orders of the whole is that over the orders of the island
    pub island_average : sum_by (gain g ps v) (orders ps) * factorial (length is) ≡ factorial (length ps) * sum_by (gain g is v) (orders is)
    unfolding gained
    island_average =
        ap (λ n. n * factorial (length is)) (sum_by_cong (λ l. island_gain l ∙ gain-pivots g is v l) (orders ps))
        ∙ joining ps is (λ i m. omega (arith, island.once i, on.once i, island.inside i m)) (λ l. gained (before v l))
        (λ r z. let e = none_has r is z in before_ignores r v (apart v r hv e) gained (gained_ignores r e))
        ∙ ap (λ n. factorial (length ps) * n) (sum_by_cong (λ l. sym (gain-pivots g is v l)) (orders is))

  -- NOTHING LEAVES AN ISLAND: in the whole the numerators of its players add up to the common denominator times its weight
  pub island_total : (L : ℕ) → Common ps g L → sum_by (λ v. numerator g ps v L) is ≡ L * sum_by g.weight is
  island_total L common = sum_by_cong_in is (λ v hv. island_numerator v hv L) ∙ total g is island_on L (island_common L common)

-- ---- by numbers of its own

module _ (f : ℕ → ℕ) (ps qs : List ℕ) (g h : Game) (on : GameOn ps g) (island : Island ps (map f qs) g) (alone : GameOn qs h) (same : Renumbered f qs g h) where
  part : GameOn (map f qs) g
  part = island_on g ps (map f qs) on island

  -- the same share, over any common denominators, the whole's and the island's own
  pub renumbered_share : (L M : ℕ) → Common ps g L → Common qs h M → (v : ℕ) → v ∈ qs → numerator g ps (f v) L * M ≡ numerator h qs v M * L
  renumbered_share L M over-L over-M v hv =
      ap (λ n. n * M)
      (island_numerator g ps (map f qs) on island (f v) (in_map f v qs hv) L ∙ renumbered_numerator f qs g h part alone same L v hv)
      ∙ any_denominator h qs alone L M (renumbered_common f qs g h part alone same L (island_common g ps (map f qs) on island L over-L)) over-M v hv

  -- and the same average gain
  pub renumbered_average : (v : ℕ) → v ∈ qs
      → sum_by (gain g ps (f v)) (orders ps) * factorial (length qs) ≡ factorial (length ps) * sum_by (gain h qs v) (orders qs)
  renumbered_average v hv =
      ap (λ n. sum_by (gain g ps (f v)) (orders ps) * factorial n) (sym (length-map qs f))
      ∙ island_average g ps (map f qs) on island (f v) (in_map f v qs hv)
      ∙ ap (λ n. factorial (length ps) * n) (renumbered_gains f qs g h part alone same v hv)

-- ---- taken out: each bus by its place in the island's list, so in ascending order where the list ascends

module _ (g : Game) (ps is : List ℕ) (on : GameOn ps g) (island : Island ps is g) where
  -- there is such a game
  player : (u : ℕ) → u ∈ range (length is) → at is u ∈ ps
  player u i = island.inside (at is u) (in_at is u (of_range u (length is) i))

  abbrev watching : ℕ → ℕ → Bool
  watching u w = has (at is w) (g.watchers (at is u))

  pub taken_out_same : Renumbered (at is) (range (length is)) g (taken_out is g)
  taken_out_same = record {
    watchers = λ u i w j. has-list_below (watching u) (of_range w (length is) j);
    needs = λ u i. refl;
    weights = λ u i. refl;
  }

  pub taken_out_on : GameOn (range (length is)) (taken_out is g)
  taken_out_on = record {
    once = range_once (length is);
    needs = λ u i. on.needs (at is u) (player u i);
    watchers_once = λ u i. ascending_once ((taken_out is g).watchers u) (list_below_ascends (length is) (watching u));
    watchers_inside = λ u i w m. in_range_lem w (length is) (of_list_below (length is) (watching u) w m).0;
    watchers_other = λ u i. has-none u ((taken_out is g).watchers u)
        (has-list_below (watching u) (of_range u (length is) i) ∙ none_has (at is u) (g.watchers (at is u)) (on.watchers_other (at is u) (player u i)));
  }

  -- AN ISLAND STANDS ALONE: in every such game of k buses, however it lists watchers, each bus has its share and its average gain
  module _ (h : Game) (k : ℕ) (all : k ≡ length is) (alone : GameOn (range k) h) (same : Renumbered (at is) (range k) g h) where
    placed : Island ps (map (at is) (range k)) g
    placed = rw (all, map_range (at is) (length is), map_below-entries is) island

    pub taken_out_share : (L M : ℕ) → Common ps g L → Common (range k) h M → (u : ℕ) → u < k
        → numerator g ps (at is u) L * M ≡ numerator h (range k) u M * L
    taken_out_share L M over-L over-M u b =
        renumbered_share (at is) ps (range k) g h on placed alone same L M over-L over-M u (in_range_lem u k b)

    pub taken_out_average : (u : ℕ) → u < k
        → sum_by (gain g ps (at is u)) (orders ps) * factorial k ≡ factorial (length ps) * sum_by (gain h (range k) u) (orders (range k))
    taken_out_average u b =
        ap (λ n. sum_by (gain g ps (at is u)) (orders ps) * factorial n) (sym (length-range k))
        ∙ renumbered_average (at is) ps (range k) g h on placed alone same u (in_range_lem u k b)
