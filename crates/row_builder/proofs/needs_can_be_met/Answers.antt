use Rattle.std.proofs.Common.{ℕ, rules, ◌∙◌}
use borrow.Author.Tests.{tests}
use Rattle.std.proofs.lemmas.Iterator.{YieldsList-from_slice, YieldsList-from_zip}
use Rattle.std.proofs.lemmas.Iterator.Search.{all_from_yields_List}
use Rattle.lists.proofs.Chains.{all_zip}
use Rattle.table_spec.specs.Holds.{can_be_met}
use Rattle.row_builder.proofs.needs_can_be_met.Goals as goal

pub returns : goal.returns
returns c =
    all_from_yields_List (λ (p : ℕ × ℕ). can_be_met p.0 p.1) c.all.new.self _ _ c.all.ensures.ran
    (YieldsList-from_zip (YieldsList-from_slice c.args.needs.now cc) (YieldsList-from_slice c.args.counts.now cc))
    (λ x b q k. search (rules, tests))
    ∙ all_zip (λ p. can_be_met p.0 p.1) c.args.needs.now c.args.counts.now c.requires
