use Rattle.std.proofs.Common.{sym, ◌∙◌, arith}
use Rattle.write_spec.proofs.PairLaws.{bytes_read}
use Rattle.writer.proofs.byte_count.Goals as goal

-- The bus count and the number of lines make up the file's byte count, with the weights unless all are 1.
pub returns-then-ones : goal.returns-then-ones
returns-then-ones c =
    let n = rw c.table.ensures.value at c.buses-n.ensures.value in
    omega (arith, bytes_read _ c.lines.ensures.network n c.lines.ensures.value (sym c.if-ones.true ∙ c.requires))

pub returns : goal.returns
returns c =
    let n = rw c.table.ensures.value at c.buses-n.ensures.value in
    omega (arith, bytes_read _ c.lines.ensures.network n c.lines.ensures.value (sym c.if-ones.false ∙ c.requires))
