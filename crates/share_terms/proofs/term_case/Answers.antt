use Rattle.std.proofs.Common.{refl, lt-ltb, le-ltb, eq-eqb, ne_eqb}
use Rattle.share_terms.specs.TermCases.{term_case}
use Rattle.share_terms.proofs.term_case.Goals as goal

pub returns-then-need-degree : goal.returns-then-need-degree
unfolding term_case
returns-then-need-degree c = rw (lt-ltb _ _ c.if-need-degree.true) refl

pub returns-then-need-degree-2 : goal.returns-then-need-degree-2
unfolding term_case
returns-then-need-degree-2 c = rw (le-ltb _ _ c.if-need-degree.false, eq-eqb _ _ c.if-need-degree-2.true) refl

pub returns-then-need-eq1 : goal.returns-then-need-eq1
unfolding term_case
returns-then-need-eq1 c = rw (le-ltb _ _ c.if-need-degree.false, ne_eqb _ _ c.if-need-degree-2.false, eq-eqb _ _ c.if-need-eq1.true) refl

pub returns : goal.returns
unfolding term_case
returns c = rw (le-ltb _ _ c.if-need-degree.false, ne_eqb _ _ c.if-need-degree-2.false, ne_eqb _ _ c.if-need-eq1.false) refl
