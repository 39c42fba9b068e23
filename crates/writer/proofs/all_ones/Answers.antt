use Rattle.std.proofs.Common.{◌∙◌, eqb, rules, tests}
use Rattle.std.proofs.lemmas.Iterator.{YieldsList-from_slice}
use Rattle.std.proofs.lemmas.Iterator.Search.{all_from_yields_List}
use Rattle.lists.specs.Lists.{at}
use Rattle.lists.proofs.Chains.{all_list}
use Rattle.write_spec.specs.FileOf.{all_ones}
use Rattle.writer.proofs.all_ones.Goals as goal

pub returns : goal.returns
unfolding all_ones at
returns c =
    all_from_yields_List (λ w. eqb w 1) _ _ _ c.all.ensures.ran (YieldsList-from_slice c.args.weights.now cc) (λ x b q k. search (rules, tests))
    ∙ all_list _ c.args.weights.now 0
