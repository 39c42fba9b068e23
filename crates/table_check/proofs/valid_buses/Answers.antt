use Rattle.std.proofs.Common.{ℕ, Bool, length, ap, refl, rules, arith, ◌∙◌, ◌&&◌}
use borrow.Author.Tests.{tests}
use Rattle.std.proofs.lemmas.Iterator.{YieldsList-from_range}
use Rattle.std.proofs.lemmas.Iterator.Search.{all_from_yields_List}
use Rattle.lists.specs.Lists.{at}
use Rattle.lists.specs.Below.{all_below}
use Rattle.lists.proofs.Chains.{all_range, all_below-and}
use Rattle.table_spec.specs.Limits.{max_need, max_weight}
use Rattle.table_spec.specs.Layout.{row_size}
use Rattle.table_spec.specs.Holds.{within, can_be_met, in_range}
use Rattle.table_check.proofs.valid_buses.Goals as goal

pub returns : goal.returns
unfolding in_range
returns c =
    let n = length c.args.needs.now in
    let needed : ℕ → Bool = λ bus. within 1 max_need (at c.args.needs.now bus) in
    let weighed : ℕ → Bool = λ bus. within 1 max_weight (at c.args.weights.now bus) in
    let met : ℕ → Bool = λ bus. can_be_met (at c.args.needs.now bus) (row_size c.args.starts.now bus) in
    all_from_yields_List (λ bus. needed bus && weighed bus && met bus) _ _ _ c.all.ensures.ran (YieldsList-from_range 0 n n refl (omega arith)) (λ x b q k. search (rules, tests))
    ∙ all_range _ n
    ∙ all_below-and (λ bus. needed bus && weighed bus) met n
    ∙ ap (λ b. b && all_below n met) (all_below-and needed weighed n ∙ ap (λ m. all_below n needed && all_below m weighed) c.requires.0)
