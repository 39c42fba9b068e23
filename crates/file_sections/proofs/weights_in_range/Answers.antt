use Rattle.std.proofs.Common.{◌∙◌, refl, sym, rules, tests, arith}
use Rattle.std.proofs.lemmas.Iterator.{YieldsList-from_range}
use Rattle.std.proofs.lemmas.Iterator.Search.{all_from_yields_List}
use Rattle.lists.proofs.Chains.{all_range}
use Rattle.table_spec.specs.Limits.{max_weight}
use Rattle.table_spec.specs.Holds.{within}
use Rattle.file_spec.specs.FileBytes.{weight_in}
use Rattle.file_spec.proofs.WeightBytes.{weights-range}
use Rattle.file_sections.proofs.weights_in_range.Goals as goal

pub returns : goal.returns
returns c =
    let n = c.args.n in
    let b = c.args.section.now in
    all_from_yields_List (λ i. within 1 max_weight (weight_in b i)) _ _ _ c.all.ensures.ran (YieldsList-from_range 0 n n refl (omega arith)) (λ x b q k. search (rules, tests))
    ∙ all_range _ n
    ∙ sym (weights-range b n)
