use Rattle.std.proofs.Common.{arith}
use Rattle.lists.specs.Lists.{at}
use Rattle.scorer.proofs.Summing.{rest_fits, sum_start, sum_end, neighbour_in, given_fits, sum-next, sum_fits}
use Rattle.scorer.proofs.numerator.Goals as goal

-- What a bus of weight 1 would give to each neighbour leaves the own term.
pub overflow_sub-sum : goal.overflow_sub-sum
overflow_sub-sum c = rest_fits c.neighbours-row.ensures.scorable c.requires.1 c.requires.0 c.neighbours-row.ensures.value c.given.ensures

pub overflow_mul-sum : goal.overflow_mul-sum
overflow_mul-sum c =
    record { fits = omega (arith, rest_fits c.neighbours-row.ensures.scorable c.requires.1 c.requires.0 c.neighbours-row.ensures.value c.given.ensures) }

pub loop-neighbour-init : goal.loop-neighbour-init
loop-neighbour-init c = sum_start c.neighbours-row.ensures.scorable c.requires.1 c.requires.0 c.neighbours-row.ensures.value c.given.ensures c.weight.ensures.0

-- A neighbour is a bus.
pub weight-requires-in-loop-neighbour : goal.weight-requires-in-loop-neighbour
unfolding at
weight-requires-in-loop-neighbour c =
    let inside = neighbour_in c.neighbours-row.ensures.scorable c.requires.1 c.requires.0 c.neighbours-row.ensures.value c.loop-neighbour-test.true in omega arith

pub given-requires-in-loop-neighbour : goal.given-requires-in-loop-neighbour
unfolding at
given-requires-in-loop-neighbour c =
    let inside = neighbour_in c.neighbours-row.ensures.scorable c.requires.1 c.requires.0 c.neighbours-row.ensures.value c.loop-neighbour-test.true in
    (omega arith, c.requires.1)

pub overflow_mul-sum-in-loop-neighbour : goal.overflow_mul-sum-in-loop-neighbour
unfolding at
overflow_mul-sum-in-loop-neighbour c =
    record {
      fits = omega (
        arith,
        given_fits c.neighbours-row.ensures.scorable c.requires.1 c.requires.0 c.neighbours-row.ensures.value c.loop-neighbour-test.true c.given-in-loop-neighbour.ensures c.weight-in-loop-neighbour.ensures.0,
      );
    }

pub overflow_add-sum : goal.overflow_add-sum
unfolding at
overflow_add-sum c =
    record {
      fits = omega (
        arith,
        sum_fits c.neighbours-row.ensures.scorable c.requires.1 c.requires.0 c.neighbours-row.ensures.value c.loop-neighbour-test.true c.given-in-loop-neighbour.ensures c.weight-in-loop-neighbour.ensures.0 c.loop-neighbour.invariant,
      );
    }

pub loop-neighbour-preserved : goal.loop-neighbour-preserved
unfolding at
loop-neighbour-preserved c =
    sum-next c.neighbours-row.ensures.scorable c.requires.1 c.requires.0 c.neighbours-row.ensures.value c.loop-neighbour-test.true c.given-in-loop-neighbour.ensures c.weight-in-loop-neighbour.ensures.0 c.loop-neighbour.invariant

pub returns : goal.returns
returns c = sum_end c.neighbours-row.ensures.scorable c.requires.1 c.requires.0 c.neighbours-row.ensures.value c.loop-neighbour.invariant c.loop-neighbour-test.false
