use Rattle.std.proofs.Common.{ℕ, Bool, refl, rules, arith, ◌∙◌, ◌+◌, ◌&&◌, leb}
use borrow.Author.Tests.{tests}
use Rattle.std.proofs.lemmas.Iterator.{YieldsList-from_range}
use Rattle.std.proofs.lemmas.Iterator.Search.{all_from_yields_List}
use Rattle.lists.specs.Lists.{at}
use Rattle.lists.proofs.Chains.{all_range, all_below-and}
use Rattle.table_spec.specs.Limits.{max_degree}
use Rattle.table_spec.specs.Holds.{never_fall, short_rows}
use Rattle.table_check.proofs.rows.spans.Goals as goal

pub returns : goal.returns
unfolding never_fall short_rows
returns c =
    let ends : ℕ → ℕ = at c.args.starts.now in
    let rises : ℕ → Bool = λ i. leb (ends i) (ends (i + 1)) in
    let short : ℕ → Bool = λ i. leb (ends (i + 1)) (ends i + max_degree) in
    all_from_yields_List (λ i. rises i && short i) _ _ _ c.all.ensures.ran (YieldsList-from_range 0 c.args.n c.args.n refl (omega arith)) (λ x b q k. search (rules, tests))
    ∙ all_range _ c.args.n
    ∙ all_below-and rises short c.args.n
