use Rattle.std.proofs.Common.{[], ◌∷◌, take}
use Rattle.lists.specs.Lists.{without, WrittenAt}
use Rattle.outage.proofs.leave_out.Given as goal

-- Of the buses passed all but one are copied.
abbrev pub invariant-loop-neighbour : goal.invariant-loop-neighbour
invariant-loop-neighbour l = WrittenAt (without (l.bus ∷ []) (take l.neighbour-index l.row)) 0 l.initial.left l.many l.left
