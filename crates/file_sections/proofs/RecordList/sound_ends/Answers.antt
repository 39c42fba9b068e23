use Rattle.std.proofs.Common.{sym, ◌∙◌, below_more, arith}
use Rattle.lists.proofs.Tests.{fails, never_both}
use Rattle.file_spec.proofs.SoundSections.{two_facts, two_test, ends_facts, ends_test}
use Rattle.file_sections.proofs.RecordList.sound_ends.Goals as goal

pub returns-then-not-two_buses : goal.returns-then-not-two_buses
returns-then-not-two_buses c =
    let e = c.ends-ends.ensures in
    sym (fails _ (λ w. never_both (two_test _ _ _ (ends_facts _ _ _ w c.loop-k.k (omega arith)))
    (rw (e.0, e.1) at (sym c.two_buses.ensures ∙ c.if-not-two_buses.true))))

pub loop-k-preserved : goal.loop-k-preserved
loop-k-preserved c =
    let e = c.ends-ends.ensures in
    below_more _ _ c.loop-k.invariant (two_facts _ _ _ (rw (e.0, e.1) at (sym c.two_buses.ensures ∙ c.if-not-two_buses.false)))

pub returns : goal.returns
returns c = sym (ends_test _ _ _ (λ k b. c.loop-k.invariant k (omega arith)))
