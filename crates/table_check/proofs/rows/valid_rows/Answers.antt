use Rattle.std.proofs.Common.{refl, rules, arith, ◌∙◌}
use borrow.Author.Tests.{tests}
use Rattle.std.proofs.lemmas.Iterator.{YieldsList-from_range}
use Rattle.std.proofs.lemmas.Iterator.Search.{all_from_yields_List}
use Rattle.std.proofs.iter.Serving.{serving}
use Rattle.lists.proofs.Chains.{all_range}
use Rattle.table_spec.proofs.Rows.{row_lies}
use Rattle.table_spec.specs.Layout.{row_at}
use Rattle.table_spec.specs.Holds.{valid_row, valid_rows}
use Rattle.table_check.proofs.rows.valid_rows.Goals as goal

pub all-requires-clause-callable : goal.all-requires-clause-callable
all-requires-clause-callable c = grind (serving, row_lies c.args.n c.args.starts.now c.args.numbers.now c.requires)

pub returns : goal.returns
unfolding valid_rows
returns c =
    all_from_yields_List (λ bus. valid_row c.args.n bus (row_at c.args.starts.now c.args.numbers.now bus)) _ _ _ c.all.ensures.ran (YieldsList-from_range 0 c.args.n c.args.n refl (omega arith)) (λ x b q k. search (rules, tests))
    ∙ all_range _ c.args.n
