-- A line table that holds a network holds one whose shares are defined.
use Rattle.std.specs.Prelude.{true, List, ◌≡◌, refl, ℕ, ◌*◌, ◌≤◌, ◌<◌}
use Rattle.lists.specs.Lists.{has}
use Rattle.lists.proofs.SumsBelow.{sum_below-le, sum_below_const}
use Rattle.table_spec.specs.Limits.{max_weight}
use Rattle.table_spec.specs.Layout.{bus_count, row, starts, neighbour_numbers, starts_at}
use Rattle.table_spec.specs.Holds.{holds, Scorable, Mirrored}
use Rattle.table_spec.proofs.Facts.{holds_facts}
use Rattle.table_spec.proofs.Rows.{valid_once, valid_below, row_valid}
use Rattle.share_spec.specs.Network.{total_weight, Watching, Sound}
use Rattle.share_spec.proofs.TableGame.{game_on, own_pos, own_over, over_whole}
use Rattle.two_way.specs.TwoWay.{network_of}

-- no bus weighs more than it may
pub total_weight-le : {t : List ℕ} → Scorable t → total_weight (network_of t) ≤ bus_count t * max_weight
unfolding total_weight
total_weight-le {t} w = rw (← sum_below_const max_weight (bus_count t)) (sum_below-le _ _ (bus_count t) w.weighed)

module _ {t : List ℕ} (w : Scorable t) (m : Mirrored (bus_count t) (starts (starts_at t) t) (neighbour_numbers (starts_at t) t)) where
  -- SYMMETRY: v watches just the buses that watch it. Of shares, only this rests on the table being mirrored
  two_way_lem : (u v : ℕ) → u < bus_count t → v < bus_count t → has v (row t u) ≡ has u (row t v)
  unfolding row
  two_way_lem u v = m u v

  -- so the scope's terms, along a bus's own row, are the game's
  pub watching : Watching (network_of t)
  watching = record { on = game_on w; once = λ v b. valid_once (row_valid w v b); inside = λ v b. valid_below (row_valid w v b); both = two_way_lem }

  pub sound : Sound (network_of t)
  sound = record { watching = watching; positive = own_pos w; whole = over_whole w (own_over w refl) }

pub held_sound : (t : List ℕ) → holds t ≡ true → Sound (network_of t)
held_sound t h = let w = holds_facts t h in sound w.shape w.mirrored
