use Rattle.std.proofs.Common.{ℕ, length, sym, ap, ◌∙◌, arith}
use Rattle.std.proofs.Math.ListN.{replicate, length-replicate}
use Rattle.lists.specs.Lists.{put}
use Rattle.table_spec.specs.Limits.{max_entries}
use Rattle.two_way.specs.TwoWay.{network_of}
use Rattle.whole_sheet.specs.WholeSheet.{whole_sheet}
use Rattle.report.proofs.Printing.{print_sheet}
use Rattle.report.proofs.report.Goals as goal

pub returns-in-Ok : goal.returns-in-Ok
returns-in-Ok c =
    let sheet = c.write_network.ensures in
    let p =
    ap (λ t. whole_sheet (network_of t)) (c.new.ensures ∙ c.in-Ok.ensures.stored)
    ∙ print_sheet c.args.file.now (replicate max_entries 0) (length-replicate {A = ℕ} max_entries 0) (sym c.in-Ok.ensures.answer) in
    record {
      answer = (omega (arith, sheet.written_at.0, ap length p), omega (arith, sheet.upper_bound, c.write_network.auto.out));
      text = sheet.written_at.1 ∙ ap (put _ 0) p;
    }
