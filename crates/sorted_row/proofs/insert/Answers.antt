use Rattle.std.proofs.Common.{◌≡◌, ◌<◌, arith}
use Rattle.lists.specs.Lists.{at}
use Rattle.sorted_row.proofs.Placing.{is_present, is_full, is_added_lem}
use Rattle.sorted_row.proofs.insert.Goals as goal
use Rattle.sorted_row.proofs.insert.Goals.{else-p-count-via-then-p-count+else-row-p, else-p-count-via-else-p-count}

pub returns-then-row-p : goal.returns-then-row-p
unfolding at
returns-then-row-p c = is_present _ _ _ _ c.requires.0 c.if-p-count.true c.if-row-p.true

pub returns-then-row-count : goal.returns-then-row-count
unfolding at
returns-then-row-count c =
    let p = c.insertion_place-p in
    let absent : p.result < c.args.count → at c.args.row.now p.result ≡ c.args.x → ⊥ =
    λ l e. elim c.else-p-count.branch [ else-p-count-via-then-p-count+else-row-p w ↦ w.if-row-p.false e | else-p-count-via-else-p-count w ↦ omega arith ] in
    is_full _ _ _ _ c.requires.0 p.ensures c.requires.1 absent c.if-row-count.true

pub returns : goal.returns
unfolding at
returns c =
    let p = c.insertion_place-p in
    let absent : p.result < c.args.count → at c.args.row.now p.result ≡ c.args.x → ⊥ =
    λ l e. elim c.else-p-count.branch [ else-p-count-via-then-p-count+else-row-p w ↦ w.if-row-p.false e | else-p-count-via-else-p-count w ↦ omega arith ] in
    is_added_lem _ _ _ _ c.requires.0 p.ensures c.requires.1 absent c.if-row-count.false c.shift_in.ensures
