use Rattle.std.proofs.Common.{length, sym, ap, ◌∙◌, arith}
use Rattle.write_spec.specs.FileOf.{all_ones, weight_section}
use Rattle.write_spec.proofs.PairLaws.{length-file_of}
use Rattle.writer.proofs.FileWriting.{length-front_of, file-written}
use Rattle.writer.proofs.write_file.Goals as goal

pub write_front-weights_at-requires : goal.write_front-weights_at-requires
write_front-weights_at-requires c = let held = c.table.ensures.network in omega (arith, c.requires.1, length-file_of _ held, length-front_of _ held)

-- the weights were read, behind the front of the file
pub write_section-requires : goal.write_section-requires
write_section-requires c =
    let e = rw c.table.ensures.value at c.weights-weights.ensures.value in
    let f = c.write_front-weights_at in
    let held = c.table.ensures.network in (
      c.requires.0 ∙ ap all_ones (sym e),
      omega (arith, c.weights-weights.ensures.long, c.weights-weights.ensures.scorable.complete.most),
      omega (arith, f.ensures.0, f.auto.out, ap (λ l. length (weight_section l)) e, length-file_of _ held, length-front_of _ held, c.requires.1),
    )

pub returns : goal.returns
returns c = file-written _ _ (rw c.table.ensures.value at c.weights-weights.ensures.value) c.write_front-weights_at.ensures c.write_section.ensures
