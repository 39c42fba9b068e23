use Rattle.std.proofs.Common.{◌≡◌, ℕ, ◌<◌, length, ap, arith, le-ltb, lt-ltb}
use Rattle.lists.proofs.Writes.{written_none, written-append}
use Rattle.write_spec.specs.FileOf.{word, record_of}
use Rattle.writer.specs.RowRecords.{record_above}
use Rattle.writer.proofs.write_pair.Goals as goal

pub returns-then-neighbour-bus : goal.returns-then-neighbour-bus
unfolding record_above
returns-then-neighbour-bus c = rw (le-ltb c.args.bus c.args.neighbour (omega arith)) (written_none _ _)

-- a neighbour above the bus
above : (bus neighbour : ℕ) → bus < neighbour → record_above bus neighbour ≡ record_of bus neighbour
unfolding record_above
above bus neighbour h = rw (lt-ltb bus neighbour h)

pub write_word-middle-requires : goal.write_word-middle-requires
unfolding record_of word
write_word-middle-requires c =
    let z = ap length (above c.args.bus c.args.neighbour c.if-neighbour-bus.false) in (omega arith, omega (arith, z, c.requires.1))

pub write_word-requires : goal.write_word-requires
unfolding record_of word
write_word-requires c =
    let z = ap length (above c.args.bus c.args.neighbour c.if-neighbour-bus.false) in
    let w = c.write_word-middle in
    (c.requires.0, omega (arith, w.ensures.0, w.auto.out, z, c.requires.1))

pub returns : goal.returns
unfolding record_of
returns c =
    let a = c.args in
    rw (above a.bus a.neighbour c.if-neighbour-bus.false)
    (written-append a.out.now a.at (word _) (word _) (omega (arith, c.requires.1)) c.write_word-middle.ensures c.write_word.ensures)
