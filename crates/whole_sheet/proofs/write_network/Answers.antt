use Rattle.std.proofs.Common.{List, ℕ, arith, take, replicate, length-take-le}
use Rattle.table_spec.specs.Limits.{max_buses}
use Rattle.two_way.specs.TwoWay.{network_of}
use Rattle.whole_sheet.proofs.SheetWriting.{scored}
use Rattle.whole_sheet.proofs.write_network.Goals as goal

-- the entries that are made for numerators
abbrev made : List ℕ
made = replicate max_buses 0

pub write_lines-requires : goal.write_lines-requires
write_lines-requires c =
    let n = rw c.table.ensures.value at c.buses.ensures.value in (
      scored (network_of c.args.network.now) (take c.buses.result made) (omega (arith, n, length-take-le c.buses.result made)) c.score_network-over.ensures.value c.score_network-over.ensures.numerators_after,
      c.requires,
    )
