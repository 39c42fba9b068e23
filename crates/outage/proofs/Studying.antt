-- How the terms of the two ends, added to zeros, make the changes.
use Rattle.std.proofs.Common.{List, [], ◌∷◌, ◌++◌, ◌≡◌, sym, ap, ap₂, ◌∙◌, ℕ, ◌+◌, ◌*◌, ◌^◌, ◌≤◌, ◌<◌, arith, ℤ, length, replicate, drop}
use Rattle.std.proofs.lemmas.List.{length-replicate}
use Rattle.lists.specs.Lists.{without, at}
use Rattle.lists.proofs.Places.{at-zeros}
use Rattle.signed.specs.Signed.{difference, signed_below}
use Rattle.signed.proofs.SignedLists.{signed_below-same}
use Rattle.table_spec.specs.Limits.{max_buses, max_weight}
use Rattle.table_spec.specs.Layout.{bus_count, row, need, weight, lines}
use Rattle.table_spec.specs.Holds.{Holds}
use Rattle.table_spec.specs.Lines.{lower_end, upper_end}
use Rattle.share_spec.specs.TableNetwork.{max_denominator, Over}
use Rattle.share_spec.specs.TermsGiven.{terms_from}
use Rattle.share_terms.specs.Added.{Added}
use Rattle.share_terms.specs.Unit.{Divided}
use Rattle.two_way.specs.TwoWay.{network_of}
use Rattle.outage_spec.specs.Outage.{without_pair, without_line, change_over}
use Rattle.outage_spec.specs.StudyOutcome.{Line}
use Rattle.outage_spec.proofs.WeakenedTable.{lower_inside, weak_buses, lower_row, upper-row}
use Rattle.outage_spec.specs.EndTerms.{ends_with, ends_without}
use Rattle.outage_spec.proofs.EndTerms.{change_by_ends, ends_with_le, ends_without-le}
use Rattle.outage_spec.proofs.StudyDue.{line_named}
use Rattle.outage.specs.StudyWork.{Room}

-- sums of zero have room
pub zeros_room : (n : ℕ) {L : ℕ} → L ≤ max_denominator → Room (max_weight * L) (replicate n 0)
zeros_room n h v = omega (arith, at-zeros n v)

-- both ends have added their terms to zeros
pub both_added : (n : ℕ) {f g : ℕ → ℕ} {x y : List ℕ} → Added f (replicate n 0) x → Added g x y → (v : ℕ) → at y v ≡ f v + g v
both_added n first second v = omega (arith, first.each v, second.each v, at-zeros n v)

-- line k was found to join a with b, and L makes the terms whole with it and without it
module _ {t : List ℕ} {k a b L m : ℕ} (h : Holds t × (k < lines t) × (bus_count t ≤ m)) (e : (a ≡ lower_end t k) × (b ≡ upper_end t k)) (o : Over t L × Over (without_line t k) L) where
  line : Line t a b
  line = rw (e.0, e.1) (line_named h.0 k h.1)

  weak : Over (without_pair t a b) L
  weak = rw (e.0, e.1) o.1

  -- what is asked of the lower end, and of the upper one
  pub lower_asked : (a < bus_count t) × Over t L
  lower_asked = (lower_inside h.0 line, o.0)

  pub upper_asked : (b < bus_count t) × Over t L
  upper_asked = (line.inside, o.0)

  pub lower_divided : Divided (length (without (b ∷ []) (row t a))) L
  lower_divided =
      record { divided = rw (lower_row h.0 line) at (weak.divided a (omega (arith, weak_buses h.0 line, lower_inside h.0 line))); bounded = o.0.bounded }

  pub upper_divided : Divided (length (without (a ∷ []) (row t b))) L
  upper_divided =
      record { divided = rw (upper-row h.0 line) at (weak.divided b (omega (arith, weak_buses h.0 line, line.inside))); bounded = o.0.bounded }

  -- the sums of the first end have room for those of the second
  pub with_room : {x : List ℕ} → Added (terms_from (weight t a) (need t a) (row t a) L a) (replicate max_buses 0) x → Room (max_weight * L) x × (bus_count t ≤ length x)
  with_room first = (λ v. omega (arith, first.each v, at-zeros max_buses v, ends_with_le h.0 line L o.0 weak v, o.0.bounded), omega (arith, first.long, length-replicate {A = ℕ} max_buses 0, h.0.shape.complete.most))

  pub without_room : {x : List ℕ} → Added (terms_from (weight t a) (need t a) (without (b ∷ []) (row t a)) L a) (replicate max_buses 0) x → Room (max_weight * L) x × (bus_count t ≤ length x)
  without_room first = (λ v. omega (arith, first.each v, at-zeros max_buses v, ends_without-le h.0 line L o.0 weak v, o.0.bounded), omega (arith, first.long, length-replicate {A = ℕ} max_buses 0, h.0.shape.complete.most))

  -- both ends have added their terms to zeros: the sums are x with the line and y without it
  module _ {first_x x first_y y : List ℕ}
      (ax : Added (terms_from (weight t a) (need t a) (row t a) L a) (replicate max_buses 0) first_x)
      (ay : Added (terms_from (weight t a) (need t a) (without (b ∷ []) (row t a)) L a) (replicate max_buses 0) first_y)
      (bx : Added (terms_from (weight t b) (need t b) (row t b) L b) first_x x)
      (by : Added (terms_from (weight t b) (need t b) (without (a ∷ []) (row t b)) L b) first_y y) where
    before : (v : ℕ) → at x v ≡ ends_with t a b L v
    before = both_added max_buses ax bx

    after : (v : ℕ) → at y v ≡ ends_without t a b L v
    after = both_added max_buses ay by

    pub sums_fit : (v : ℕ) → (at x v < 2 ^ 63) × (at y v < 2 ^ 63)
    sums_fit v =
        (omega (arith, before v, ends_with_le h.0 line L o.0 weak v, o.0.bounded), omega (arith, after v, ends_without-le h.0 line L o.0 weak v, o.0.bounded))

    pub changes_stored : {n : ℕ} (c : List ℤ) {d : List ℤ} → n ≡ bus_count t → d ≡ signed_below n (λ v. difference (at y v) (at x v)) ++ drop n c
        → d ≡ signed_below (bus_count t) (change_over (network_of t) (network_of (without_line t k)) L) ++ drop (bus_count t) c
    changes_stored c en stored =
        stored
        ∙ ap (λ m. signed_below m (λ v. difference (at y v) (at x v)) ++ drop m c) en
        ∙ ap (λ l. l ++ drop (bus_count t) c)
        (signed_below-same _ _ (bus_count t) λ v l.
        ap₂ difference (after v) (before v)
        ∙ sym (change_by_ends h.0 line L v l)
        ∙ ap₂ (λ i j. change_over (network_of t) (network_of (without_pair t i j)) L v) e.0 e.1)
