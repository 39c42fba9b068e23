use Rattle.file_spec.proofs.SoundSections.{ends_test}
use Rattle.file_records.proofs.store_rows.Goals as goal

pub invariant_of-sorted : goal.invariant_of-sorted
invariant_of-sorted c =
    let g = c.requires.m_in_bounds.1 in
    record { few = (g.buses, g.lines); sound = ends_test _ _ _ g.ends; sorted = g.order }
