-- A table of one-way lines holds a network whose shares are defined, so the claims on answers hold of it.
use Rattle.std.specs.Prelude.{true, ◌&&◌, List, ◌≡◌, refl, ℕ, ◌<◌, length}
use Rattle.lists.proofs.Tests.{and_left, and_right}
use Rattle.refusals.specs.Outcomes.{Outcome}
use Rattle.table_spec.specs.Layout.{bus_count, starts, neighbour_numbers, starts_at}
use Rattle.table_spec.specs.Holds.{sound_buses, sound_rows, Scorable, Holds}
use Rattle.table_spec.proofs.Rows.{room}
use Rattle.table_spec.proofs.Facts.{buses_facts, rows_facts}
use Rattle.share_spec.specs.Network.{Sound}
use Rattle.share_spec.proofs.FairFormula.{watching-converse, same_game}
use Rattle.share_spec.specs.Formula.{numerator_over}
use Rattle.two_way.specs.TwoWay.{network_of}
use Rattle.two_way.proofs.TwoWaySound.{watching}
use Rattle.share_spec.proofs.TableGame.{game_on, own_pos, own_over, over_whole}
use Rattle.share_spec.specs.ShareOutcomes.{shares_outcome, numerators_after, AllFair}
use Rattle.share_spec.proofs.ShareClaims.{all_fair}
use Rattle.one_way.specs.OneWay.{holds_one_way, one_way}

scorable : (t : List ℕ) → holds_one_way t ≡ true → Scorable t
unfolding holds_one_way
scorable t w =
    let n = bus_count t in
    let s = starts (starts_at t) t in
    let l = neighbour_numbers (starts_at t) t in
    let w1 = and_left (sound_buses t && sound_rows n s l) _ w in
    let c = buses_facts t (and_left (sound_buses t) _ w1) in
    let g = room (starts_at t) t c.complete in
    record {
      complete = c.complete;
      needed = λ i b. (c.needed i b).0;
      weighed = λ i b. (c.weighed i b).1;
      rows = rows_facts n s l g.0 g.1 (and_right (sound_buses t) _ w1);
    }

pub held_sound : (t : List ℕ) → holds_one_way t ≡ true → Sound (one_way t)
held_sound t h =
    let w = scorable t h in
    record { watching = watching-converse (one_way t) refl (game_on w); positive = own_pos w; whole = over_whole w (own_over w refl) }

-- two-way lines written with both directions give the same shares
pub both_ways : {t : List ℕ} → Holds t → (L v : ℕ) → v < bus_count t → numerator_over (one_way t) L v ≡ numerator_over (network_of t) L v
both_ways {t} w = same_game (watching-converse (one_way t) refl (game_on w.shape)) (watching w.shape w.mirrored) refl refl

-- the third demand for one-way lines: no law but the common one
pub one_way_fair : (t x : List ℕ) {o : Outcome ℕ} {after : List ℕ} → o ≡ shares_outcome (one_way t) (length x) → after ≡ numerators_after (one_way t) x
    → AllFair (one_way t) (length x) o after
one_way_fair t x e f = all_fair (one_way t) (held_sound t) x (record { answered = e; after = f })
