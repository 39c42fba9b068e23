use Rattle.std.proofs.Common.{◌∙◌, rules, tests}
use Rattle.std.proofs.lemmas.Iterator.{YieldsList-from_slice}
use Rattle.std.proofs.lemmas.Iterator.Search.{all_from_yields_List}
use Rattle.lists.specs.Lists.{at}
use Rattle.lists.proofs.Chains.{all_list}
use Rattle.table_spec.specs.Limits.{max_need}
use Rattle.table_spec.specs.Holds.{within, in_range}
use Rattle.file_sections.proofs.needs_in_range.Goals as goal

pub returns : goal.returns
unfolding in_range at
returns c =
    all_from_yields_List (within 1 max_need) _ _ _ c.all.ensures.ran (YieldsList-from_slice c.args.needs.now cc) (λ x b q k. search (rules, tests))
    ∙ all_list _ c.args.needs.now 0
