use Rattle.std.proofs.Common.{◌≡◌, false, true, not, refl, sym, ap, ◌∙◌, ◌<◌, arith}
use Rattle.lists.specs.Below.{sum_below}
use Rattle.lists.specs.Lists.{indicator}
use Rattle.file_spec.specs.Records.{repeats, pair_count}
use Rattle.file_spec.proofs.RecordPairs.{pair_count-le, pair_count-next}
use Rattle.file_records.proofs.RecordLaws.{ordered, repeats-last, first_bus, second_bus, neighbour-count-le, second_count-le, counts-none, counts_again, counts-next}
use Rattle.file_records.proofs.SortedRecords.count_neighbours.Goals as goal
use Rattle.file_records.proofs.SortedRecords.count_neighbours.Goals.{then-not-equals_last, else-not-equals_last}

pub loop-k-init : goal.loop-k-init
unfolding pair_count sum_below
loop-k-init c = (refl, counts-none _ _ c.requires)

pub increment-requires : goal.increment-requires
increment-requires c =
    let s = c.args.self.now in
    let g = ordered s in
    let b = first_bus g (omega arith) c.ends-ends.ensures in
    (omega (arith, b, g.buses), omega (arith, neighbour-count-le c.loop-k.invariant.1 b, g.buses))

pub increment-requires-then-not-equals_last : goal.increment-requires-then-not-equals_last
increment-requires-then-not-equals_last c =
    let s = c.args.self.now in
    let g = ordered s in
    let l : c.loop-k.k < s.records.count = omega arith in
    let e = c.ends-ends.ensures in
    let new : repeats s.records.bytes.now c.loop-k.k ≡ false = sym (repeats-last g l) ∙ sym c.equals_last.ensures ∙ c.if-not-equals_last.true in (
      omega (arith, second_bus g l e, g.buses),
      omega (arith, second_count-le g l e new c.loop-k.invariant.1 c.increment.ensures, g.buses),
    )

pub overflow_add-pairs : goal.overflow_add-pairs
overflow_add-pairs c =
    let s = c.args.self.now in
    let v = c.loop-k in omega (arith, v.invariant.0, pair_count-le v.k s.records.bytes.now, s.few.1)

pub loop-k-preserved : goal.loop-k-preserved
loop-k-preserved c =
    let s = c.args.self.now in
    let r = s.records.bytes.now in
    let v = c.loop-k in
    let g = ordered s in
    let l : c.loop-k.k < s.records.count = omega arith in
    let again = repeats-last g l in
    let next = pair_count-next v.k r in
    elim c.if-not-equals_last.branch [
      | then-not-equals_last w ↦
          let new : repeats r v.k ≡ false = sym again ∙ sym c.equals_last.ensures ∙ w.if-not-equals_last.true in (
            w.pairs-is ∙ omega (arith, v.invariant.0, next, ap (λ t. indicator (not t)) new),
            rw w.counts-is (counts-next g l w.ends-ends.ensures new v.invariant.1 w.increment.ensures w.increment-then-not-equals_last.ensures),
          )
      | else-not-equals_last w ↦
          let old : repeats r v.k ≡ true = sym again ∙ sym c.equals_last.ensures ∙ w.if-not-equals_last.false in (
            w.pairs-is ∙ omega (arith, v.invariant.0, next, ap (λ t. indicator (not t)) old),
            rw w.counts-is (counts_again v.invariant.1 old),
          )
    ]
