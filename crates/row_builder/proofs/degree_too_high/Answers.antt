use Rattle.std.proofs.Common.{ltb, take, rules, ◌∙◌, arith}
use borrow.Author.Tests.{tests}
use Rattle.std.proofs.lemmas.Iterator.{YieldsList-from_slice}
use Rattle.std.proofs.lemmas.Iterator.Search.{any_from_yields_List}
use Rattle.lists.proofs.Chains.{any_front}
use Rattle.table_spec.specs.Limits.{max_degree}
use Rattle.row_builder.proofs.degree_too_high.Goals as goal

pub returns : goal.returns
returns c =
    any_from_yields_List (ltb max_degree) _ _ _ c.any.ensures.ran (YieldsList-from_slice (take c.args.n c.args.counts.now) cc) (λ x b q k. search (rules, tests))
    ∙ any_front (ltb max_degree) c.args.counts.now c.args.n (omega arith)
