use Rattle.std.proofs.Common.{ap, ◌∙◌, arith}
use Rattle.write_spec.specs.FileOf.{all_ones}
use Rattle.writer.proofs.write.Goals as goal

-- whether all weights are 1 was tested
pub byte_count-requires : goal.byte_count-requires
byte_count-requires c = c.all_ones-ones.ensures ∙ ap all_ones (rw c.table.ensures.value at c.weights.ensures.value)

pub write_file-requires : goal.write_file-requires
write_file-requires c =
    (c.all_ones-ones.ensures ∙ ap all_ones (rw c.table.ensures.value at c.weights.ensures.value), omega (arith, c.byte_count.ensures, c.if-out-byte_count.false))
