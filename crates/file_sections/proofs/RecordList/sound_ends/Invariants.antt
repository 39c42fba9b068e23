-- The records passed name two different buses each.
use Rattle.file_spec.specs.SoundSections.{SoundEnds}
use Rattle.file_sections.proofs.RecordList.sound_ends.Given as goal

abbrev pub invariant-loop-k : goal.invariant-loop-k
invariant-loop-k l = SoundEnds l.n l.k l.self.bytes.now
