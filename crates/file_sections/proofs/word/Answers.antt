use Rattle.std.proofs.Common.{◌∙◌, rules}
use Rattle.lists.specs.Lists.{at}
use Rattle.file_spec.specs.FileBytes.{word_at}
use Rattle.file_sections.proofs.word.Goals as goal

pub returns : goal.returns
unfolding word_at at
returns c = (c.from.ensures ∙ c.from_le_bytes.ensures, search rules)
