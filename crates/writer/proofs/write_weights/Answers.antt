use Rattle.std.proofs.Common.{◌+◌, ◌≤◌, length, ap, arith, rules}
use Rattle.lists.specs.Lists.{at}
use Rattle.lists.specs.Below.{join_below}
use Rattle.lists.proofs.Writes.{written_start, written_next, written_done, written_fits}
use Rattle.write_spec.specs.FileOf.{word, words}
use Rattle.writer.proofs.write_weights.Goals as goal

pub loop-weight-init : goal.loop-weight-init
loop-weight-init c = written_start _ _ _

-- all weights fit
pub write_word-end-requires : goal.write_word-end-requires
unfolding words at word
write_word-end-requires c =
    (search rules, written_fits _ _ _ c.loop-weight.invariant (length c.args.weights.now) c.requires (omega arith) (ap word c.from.ensures))

pub loop-weight-preserved : goal.loop-weight-preserved
unfolding words at
loop-weight-preserved c =
    let room : c.args.at + length (join_below (length c.args.weights.now) (λ i. word (at c.args.weights.now i))) ≤ length c.args.out.now = c.requires in
    written_next _ _ _ c.loop-weight.invariant (omega (arith, room)) (ap word c.from.ensures) c.write_word-end.ensures

pub returns : goal.returns
unfolding words at
returns c = written_done _ _ _ c.loop-weight.invariant _ (omega arith) (omega arith)
