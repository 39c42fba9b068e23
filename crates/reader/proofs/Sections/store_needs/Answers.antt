use Rattle.std.proofs.Common.{[], ◌∷◌, ◌≡◌, ◌+◌, length, take, refl, sym, ap, ◌∙◌, arith, length-take-le}
use Rattle.lists.specs.Lists.{at, put}
use Rattle.lists.proofs.Places.{take_next}
use Rattle.lists.proofs.Writes.{put-none, stored_entry}
use Rattle.reader.proofs.Sections.store_needs.Goals as goal

pub loop-bus-init : goal.loop-bus-init
loop-bus-init c =
    let t = c.args.table.now in
    stored_entry t 0 [] (sym (put-none t 0)) refl (length c.args.self.now.needs.now) (omega (arith, c.requires))

pub loop-bus-preserved : goal.loop-bus-preserved
unfolding at
loop-bus-preserved c =
    let q = c.args.self.now.needs.now in
    let v = c.loop-bus in
    let next : 1 + v.bus ≡ 0 + length (length q ∷ take v.bus q) = omega (arith, length-take-le v.bus q (omega arith)) in
    rw c.from.ensures
    (stored_entry _ _ _ v.invariant next _ (omega (arith, c.requires))
    ∙ ap (put c.args.table.now 0) (ap (λ l. length q ∷ l) (sym (take_next v.bus q (omega arith)))))
