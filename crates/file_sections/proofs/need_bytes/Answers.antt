use Rattle.std.proofs.Common.{◌+◌, ap}
use Rattle.lists.specs.Lists.{part}
use Rattle.file_spec.specs.FileBytes.{need_bytes}
use Rattle.file_sections.proofs.need_bytes.Goals as goal

pub returns : goal.returns
unfolding need_bytes
returns c = ap (λ n. part 2 (2 + n) c.args.file.now) c.requires.0
