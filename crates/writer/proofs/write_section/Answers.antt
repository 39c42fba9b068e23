use Rattle.std.proofs.Common.{length, sym, ap, ◌∙◌, arith}
use Rattle.lists.proofs.Writes.{written_none, written-append}
use Rattle.write_spec.specs.FileOf.{word, words}
use Rattle.write_spec.proofs.WrittenWeights.{section_none, section_some}
use Rattle.writer.proofs.write_section.Goals as goal

pub returns-then-ones : goal.returns-then-ones
returns-then-ones c = rw (section_none _ (sym c.requires.0 ∙ c.if-ones.true)) (written_none _ _)

-- a weight is not 1
pub write_word-weights_at-requires : goal.write_word-weights_at-requires
unfolding word
write_word-weights_at-requires c =
    (c.requires.1, omega (arith, c.requires.2, ap length (section_some c.args.weights.now (sym c.requires.0 ∙ c.if-ones.false))))

pub write_weights-requires : goal.write_weights-requires
unfolding word
write_weights-requires c =
    let w = c.write_word-weights_at in
    omega (arith, w.ensures.0, w.auto.out, c.requires.2, ap length (section_some c.args.weights.now (sym c.requires.0 ∙ c.if-ones.false)))

pub returns : goal.returns
returns c =
    let a = c.args in
    rw (section_some a.weights.now (sym c.requires.0 ∙ c.if-ones.false))
    (written-append a.out.now a.at (word _) (words _) (omega (arith, c.requires.2)) c.write_word-weights_at.ensures c.write_weights.ensures)
