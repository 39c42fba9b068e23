use Rattle.std.proofs.Common.{[], ◌∷◌, ◌++◌, ◌≡◌, ◌+◌, length, sym, ap, ◌∙◌, arith}
use Rattle.lists.specs.Lists.{put}
use Rattle.lists.specs.Below.{join_below, map_below}
use Rattle.lists.proofs.JoinBelow.{length-map_below}
use Rattle.lists.proofs.Loops.{map_below-next}
use Rattle.lists.proofs.Writes.{put-none, stored_entry}
use Rattle.file_spec.specs.FileBytes.{weight_in}
use Rattle.reader.proofs.Sections.store_weights.Goals as goal

pub loop-bus-init : goal.loop-bus-init
unfolding map_below join_below
loop-bus-init c = sym (put-none _ _)

pub loop-bus-preserved : goal.loop-bus-preserved
loop-bus-preserved c =
    let a = c.args in
    let v = c.loop-bus in
    let w = weight_in a.self.now.weights.now in
    let next : a.from + v.bus ≡ a.from + length (map_below v.bus w) = omega (arith, length-map_below v.bus w) in
    stored_entry _ _ _ v.invariant next _ (omega (arith, c.requires))
    ∙ ap (λ x. put a.table.now a.from (map_below v.bus w ++ (x ∷ []))) c.weight_in.ensures.0
    ∙ ap (put a.table.now a.from) (sym (map_below-next v.bus w))
