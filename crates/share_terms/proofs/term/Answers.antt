-- Each arm's value is its case's fraction of L.
use Rattle.std.proofs.Common.{arith, ◌<◌}
use Rattle.share_terms.proofs.CaseLaws.{cases_cover, need_above_degree_lem, need_equal_to_degree, need-one, need_between}
use Rattle.share_terms.proofs.term.Goals as goal

pub returns-in-1 : goal.returns-in-1
returns-in-1 c = need_above_degree_lem _ _ _ ((cases_cover c.requires.0 c.term_case.ensures).above_degree c.in-1.is)

pub returns-in-2 : goal.returns-in-2
returns-in-2 c = need_equal_to_degree _ _ _ c.requires.0 ((cases_cover c.requires.0 c.term_case.ensures).equal_to_degree c.in-2.is) (omega arith)

pub returns-in-3 : goal.returns-in-3
returns-in-3 c =
    let o = (cases_cover c.requires.0 c.term_case.ensures).one c.in-3.is in
    need-one _ _ _ (omega (arith, o)) o.0 (omega arith)

pub overflow_sub-result : goal.overflow_sub-result
overflow_sub-result c =
    let b : (1 < c.args.need) × (c.args.need < c.args.degree) =
    (cases_cover c.requires.0 c.term_case.ensures).between (omega arith) (omega arith) (omega arith) in
    omega arith

pub returns-in_default : goal.returns-in_default
returns-in_default c =
    let b : (1 < c.args.need) × (c.args.need < c.args.degree) =
    (cases_cover c.requires.0 c.term_case.ensures).between (omega arith) (omega arith) (omega arith) in
    need_between _ _ _ b.0 b.1 (omega arith)
