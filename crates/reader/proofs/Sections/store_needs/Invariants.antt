-- The bus count and the needs passed are stored.
use Rattle.std.proofs.Common.{◌∷◌, ◌≡◌, length, take}
use Rattle.lists.specs.Lists.{put}
use Rattle.reader.proofs.Sections.store_needs.Given as goal

abbrev pub invariant-loop-bus : goal.invariant-loop-bus
invariant-loop-bus l = l.table ≡ put l.fn.table 0 (length l.self.needs.now ∷ take l.bus l.self.needs.now)
