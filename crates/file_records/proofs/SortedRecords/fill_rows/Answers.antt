use Rattle.std.proofs.Common.{◌≡◌, false, true, length, refl, sym, ◌∙◌, ◌<◌, arith}
use Rattle.lists.proofs.Loops.{by_end}
use Rattle.row_builder.specs.GrowingRows.{GrowingRows}
use Rattle.row_builder.proofs.GrowingLaws.{growing_same, growing_done}
use Rattle.file_spec.specs.Records.{neighbours, repeats}
use Rattle.file_spec.proofs.RecordPairs.{neighbours-none, neighbours_again}
use Rattle.file_records.proofs.RecordLaws.{ordered, repeats-last, first_bus, second_bus, first_fits, first-grown, second_fits, second_grown}
use Rattle.file_records.proofs.SortedRecords.fill_rows.Goals as goal
use Rattle.file_records.proofs.SortedRecords.fill_rows.Goals.{then-not-equals_last, else-not-equals_last}

pub loop-k-init : goal.loop-k-init
loop-k-init c = growing_same c.requires _ (λ i b. sym (neighbours-none _ _ i))

pub append-requires : goal.append-requires
append-requires c =
    let s = c.args.self.now in
    let g = ordered s in
    let l : c.loop-k.k < s.records.count = omega arith in
    let e = c.ends-ends.ensures in
    let new : repeats s.records.bytes.now c.loop-k.k ≡ false = sym (repeats-last g l) ∙ sym c.equals_last.ensures ∙ c.if-not-equals_last.true in
    let f = first_fits g l e new c.loop-k.invariant in
    (omega (arith, first_bus g l e, g.buses), f.0, f.1)

pub append-requires-then-not-equals_last : goal.append-requires-then-not-equals_last
append-requires-then-not-equals_last c =
    let s = c.args.self.now in
    let g = ordered s in
    let l : c.loop-k.k < s.records.count = omega arith in
    let e = c.ends-ends.ensures in
    let new : repeats s.records.bytes.now c.loop-k.k ≡ false = sym (repeats-last g l) ∙ sym c.equals_last.ensures ∙ c.if-not-equals_last.true in
    let a = c.append.ensures in
    let f = second_fits g l e new (first-grown g l e new c.loop-k.invariant a.rows_after a.next_after) in
    (omega (arith, second_bus g l e, g.buses), f.0, f.1)

pub overflow_cast-ends : goal.overflow_cast-ends
overflow_cast-ends c =
    let s = c.args.self.now in
    let g = ordered s in
    omega (arith, second_bus g (omega arith) c.ends-ends.ensures, g.buses)

pub overflow_cast-ends-then-not-equals_last : goal.overflow_cast-ends-then-not-equals_last
overflow_cast-ends-then-not-equals_last c =
    let s = c.args.self.now in
    let g = ordered s in
    omega (arith, first_bus g (omega arith) c.ends-ends.ensures, g.buses)

pub loop-k-preserved : goal.loop-k-preserved
loop-k-preserved c =
    let s = c.args.self.now in
    let r = s.records.bytes.now in
    let v = c.loop-k in
    let g = ordered s in
    let l : c.loop-k.k < s.records.count = omega arith in
    let again = repeats-last g l in
    elim c.if-not-equals_last.branch [
      | then-not-equals_last w ↦
          let new : repeats r v.k ≡ false = sym again ∙ sym c.equals_last.ensures ∙ w.if-not-equals_last.true in
          let e = w.ends-ends.ensures in
          let a = w.append.ensures in
          let b = w.append-then-not-equals_last.ensures in
          let one = first-grown g l e new v.invariant a.rows_after a.next_after in
          rw (w.next-is, w.rows-is) (second_grown g l e new one b.rows_after b.next_after)
      | else-not-equals_last w ↦
          let old : repeats r v.k ≡ true = sym again ∙ sym c.equals_last.ensures ∙ w.if-not-equals_last.false in
          rw (w.next-is, w.rows-is) (growing_same v.invariant _ (λ i _. sym (neighbours_again _ _ _ old i)))
    ]

pub returns : goal.returns
returns c =
    let s = c.args.self.now in
    let n = s.buses in
    let r = s.records.bytes.now in
    let v = c.loop-k in
    let w = by_end (λ k. GrowingRows n (λ i. length (neighbours n s.records.count r i)) (neighbours n k r) v.next v.rows) v.invariant (omega arith) (omega arith) in
    growing_done w (λ i b. refl)
