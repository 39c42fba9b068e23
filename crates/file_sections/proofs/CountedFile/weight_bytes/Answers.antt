use Rattle.std.proofs.Common.{◌≡◌, ◌+◌, ◌-◌, ◌*◌, take, drop, sym, ap, ap₂, ◌∙◌, arith}
use Rattle.lists.specs.Lists.{part}
use Rattle.file_spec.specs.FileBytes.{weight_bytes}
use Rattle.file_spec.proofs.WeightBytes.{weight_bytes-none}
use Rattle.file_sections.proofs.CountedFile.weight_bytes.Goals as goal

pub returns-then-self-end : goal.returns-then-self-end
returns-then-self-end c =
    let f = c.args.self.now.file.now in
    let e = 2 + c.args.self.now.buses + 2 + 4 * c.args.self.now.lines in
    let none : e - e ≡ 0 = omega arith in
    ap (λ k. take k (drop e f)) none ∙ sym (weight_bytes-none f (omega arith))

pub returns : goal.returns
unfolding weight_bytes
returns c = ap₂ (λ n m. part (2 + n + 2 + 4 * m + 2) (2 + n + 2 + 4 * m + 2 + 2 * n) c.args.self.now.file.now) c.args.self.now.counted.0 c.args.self.now.counted.1
