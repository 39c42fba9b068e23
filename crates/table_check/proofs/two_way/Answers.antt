use Rattle.std.proofs.Common.{arith, sym, ◌∙◌}
use Rattle.table_spec.proofs.Facts.{rows_facts, room_read, two_way_fails, two_way_read}
use Rattle.table_check.proofs.two_way.Goals as goal

pub sound_rows-requires : goal.sound_rows-requires
sound_rows-requires c = room_read _ _ c.bus_count-n.ensures.0 c.starts-starts.ensures c.neighbour_numbers-numbers.ensures c.requires

pub mirrored-requires : goal.mirrored-requires
mirrored-requires c =
    let g = room_read _ _ c.bus_count-n.ensures.0 c.starts-starts.ensures c.neighbour_numbers-numbers.ensures c.requires in
    (rows_facts _ _ _ g.0 g.1 (sym c.if-sound_rows.ensures), omega (arith, c.requires.most))

pub returns-then-sound_rows : goal.returns-then-sound_rows
returns-then-sound_rows c = two_way_read _ _ c.bus_count-n.ensures.0 c.starts-starts.ensures c.neighbour_numbers-numbers.ensures (sym c.if-sound_rows.ensures) c.mirrored.ensures

pub returns-else-sound_rows : goal.returns-else-sound_rows
returns-else-sound_rows c = c.if-sound_rows.false ∙ two_way_fails _ _ c.bus_count-n.ensures.0 c.starts-starts.ensures c.neighbour_numbers-numbers.ensures (sym c.if-sound_rows.ensures)
