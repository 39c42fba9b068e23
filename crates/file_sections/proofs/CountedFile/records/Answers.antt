use Rattle.std.proofs.Common.{◌+◌, ◌*◌, ap₂}
use Rattle.lists.specs.Lists.{part}
use Rattle.file_spec.specs.FileBytes.{records}
use Rattle.file_sections.proofs.CountedFile.records.Goals as goal

pub returns : goal.returns
unfolding records
returns c =
    let s = c.args.self.now in
    (ap₂ (λ n m. part (2 + n + 2) (2 + n + 2 + 4 * m) s.file.now) s.counted.0 s.counted.1, s.counted.1)
