-- The outcome is what is due, and what is due obeys the rule.
use Rattle.std.proofs.Common.{arith, sym, ap, subst, ◌∙◌}
use Rattle.refusals.specs.Outcomes.{gives}
use Rattle.fraction.specs.Cancel.{CancelRule}
use Rattle.fraction.proofs.LowestTerms.{cancel_refused, cancel_divided, cancel_rule}
use Rattle.fraction.proofs.cancel.Goals as goal

pub returns-then-denominator-eq0-clause-answer : goal.returns-then-denominator-eq0-clause-answer
returns-then-denominator-eq0-clause-answer c = sym (cancel_refused _ (omega arith))

pub returns-clause-answer : goal.returns-clause-answer
returns-clause-answer c = sym (cancel_divided _ _ (omega arith) ∙ ap gives (sym c.reduce.ensures))

pub returns-clause-rule : goal.returns-clause-rule
returns-clause-rule c =
    let a = c.args.numerator in
    let b = c.args.denominator in
    subst (CancelRule a b) (cancel_divided a b (omega arith) ∙ ap gives (sym c.reduce.ensures)) (cancel_rule a b)
